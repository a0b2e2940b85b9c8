-- Why a block of bytes without both letters of a word has no word that begins there.
use Rattle.regex_lite_syntax.proofs.Common.{◌≡◌, ℕ, ◌+◌, ◌-◌, ◌<◌, ◌≤◌, ◌∙◌, List, [], ◌∷◌, length}
use Rattle.regex_lite_syntax.proofs.Common.{get_or, drop, take, arith, ap, subst, sym, get_or-drop}
use Rattle.regex_lite_syntax.proofs.Common.{length-drop, IsLetter, NoneStands, Letter}
use Rattle.std.proofs.Common.{⊎_elim, length-take, get_or-take}
use Rattle.regex_lite_syntax.specs.Prefilter.Words.{StartsWith}
use Rattle.regex_lite_syntax.proofs.prefilter.words.NextLemmas.{only_stands}
use Rattle.regex_lite_syntax.proofs.prefilter.words.StandLemmas.{stands_letter}

-- a letter in one case is this byte alone
pub exact_letter : (letter : Letter) (byte : ℕ) → letter.other ≡ letter.byte → IsLetter letter byte
    → byte ≡ letter.byte
exact_letter letter byte exact is = ⊎_elim (λ first. first) (λ other. other ∙ exact) is

-- where a word stands, each of its letters does, as it is read
pub letter_here : (word : List Letter) (bytes : List ℕ) (at k : ℕ) (letter : Letter)
    → StartsWith word (drop at bytes) → k < length word → letter ≡ get_or word k letter
    → IsLetter letter (get_or bytes (at + k) 0)
letter_here word bytes at k letter stands inside is =
    subst (λ read. IsLetter read (get_or bytes (at + k) 0)) (sym is)
    (stands_letter word bytes at letter stands k inside)

-- the bytes from an offset on for some length
abbrev pub block : (bytes : List ℕ) (from n : ℕ) → List ℕ
block bytes from n = take (from + n - from) (drop from bytes)

-- its byte is the one as far from that offset
byte_of_block : (bytes : List ℕ) (from n k : ℕ) → k < n
    → get_or (block bytes from n) k 0 ≡ get_or bytes (from + k) 0
byte_of_block bytes from n k below =
    let inside : k < from + n - from = omega arith in rw (get_or-take, get_or-drop)

-- where no two bytes at the same place of two blocks are two letters of a word, up to a place, it
-- doesn't stand up to there
pub none_up_to_place : (word : List Letter) (bytes : List ℕ) (at n place first second : ℕ)
    (a b : Letter) → place ≤ n → first < length word → second < length word
    → a ≡ get_or word first a → b ≡ get_or word second b
    → ((k : ℕ) → k < place → IsLetter a (get_or (block bytes (at + first) n) k 0)
    → ¬ IsLetter b (get_or (block bytes (at + second) n) k 0))
    → NoneStands (word ∷ []) bytes at (at + place)
none_up_to_place word bytes at n place first second a b few in_a in_b is_a is_b none from low high
    any =
    let k = from - at in
    let small : k < n = omega (arith, few) in
    let here = only_stands word bytes from any in
    let firsts : get_or (block bytes (at + first) n) k 0 ≡ get_or bytes (from + first) 0 =
    byte_of_block bytes (at + first) n k small ∙ ap (λ i. get_or bytes i 0) (omega arith) in
    let seconds : get_or (block bytes (at + second) n) k 0 ≡ get_or bytes (from + second) 0 =
    byte_of_block bytes (at + second) n k small ∙ ap (λ i. get_or bytes i 0) (omega arith) in
    none k (omega arith)
    (subst (λ byte. IsLetter a byte) (sym firsts)
    (letter_here word bytes from first a here in_a is_a))
    (subst (λ byte. IsLetter b byte) (sym seconds)
    (letter_here word bytes from second b here in_b is_b))

-- the same up to the blocks' end
pub none_in_block : (word : List Letter) (bytes : List ℕ) (at n first second : ℕ) (a b : Letter)
    → first < length word → second < length word
    → a ≡ get_or word first a → b ≡ get_or word second b
    → at + n + length word ≤ length bytes + 1
    → ((k : ℕ) → k < length (block bytes (at + first) n)
    → IsLetter a (get_or (block bytes (at + first) n) k 0)
    → ¬ IsLetter b (get_or (block bytes (at + second) n) k 0))
    → NoneStands (word ∷ []) bytes at (at + n)
none_in_block word bytes at n first second a b in_a in_b is_a is_b room none =
    none_up_to_place word bytes at n n first second a b (omega arith) in_a in_b is_a is_b
    (λ k small. none k (omega (
      arith,
      small,
      length-take (at + first + n - (at + first)) (drop (at + first) bytes),
      length-drop (at + first) bytes,
    )))
