-- What the bytes are at which a word stands, and why a search may shift.
use Rattle.regex_lite_syntax.proofs.Common.{◌≡◌, ℕ, zero, suc, ◌+◌, ◌-◌, ◌%◌, ◌<◌, ◌≤◌, List, []}
use Rattle.regex_lite_syntax.proofs.Common.{◌∷◌, length, get_or, take, drop, replicate, slice_index}
use Rattle.regex_lite_syntax.proofs.Common.{slice_set, sym, ap, ◌∙◌, subst, inl, inr, arith}
use Rattle.regex_lite_syntax.proofs.Common.{cases_eq, cases_lt, get_or-drop, get_or-set_other}
use Rattle.regex_lite_syntax.proofs.Common.{length-drop, IsLetter, Letter, NoneStands}
use Rattle.regex_lite_syntax.proofs.Common.{get_or-set_same, NeverPasses, StartsWith, word_at}
use Rattle.std.proofs.Common.{ap₂}
use Rattle.std.proofs.lemmas.List.{take_more}
use Rattle.std.proofs.lemmas.List.Sums.{fold-append}
use Rattle.regex_lite_syntax.specs.Prefilter.Shifts.{AreShifts, hash_of, key_of, mixed}
use Rattle.regex_lite_syntax.specs.Prefilter.Words.{AnyStandsAt}
use Rattle.regex_lite_syntax.proofs.prefilter.words.StandLemmas.{start_length, start_letter}

-- a letter has the same remainder in both cases
same_remainder : (letter : Letter) (byte : ℕ) → IsLetter letter byte
    → byte % 32 ≡ letter.byte % 32
same_remainder letter byte (inl one) = ap (λ b. b % 32) one
same_remainder letter byte (inr other) = ap (λ b. b % 32) other ∙ letter.same

-- so have the bytes of a word, wherever it stands
remainder_at : (word : List Letter) (bytes : List ℕ) (k : ℕ) (letter : Letter)
    → k < length word → letter ≡ get_or word k letter → StartsWith word bytes
    → slice_index bytes k % 32 ≡ letter.byte % 32
remainder_at word bytes k letter inside is starts =
    same_remainder letter (slice_index bytes k)
    (subst (λ l. IsLetter l (slice_index bytes k)) (sym is)
    (start_letter word bytes letter starts k inside))

-- pairs of bytes with the same remainders have the same key
same_key : (a b c d : ℕ) → a % 32 ≡ c % 32 → b % 32 ≡ d % 32 → key_of a b ≡ key_of c d
unfolding key_of
same_key a b c d one other = cc

-- the key of two letters of a word is that of its bytes, wherever it stands
pub key_in_word : (word : List Letter) (bytes : List ℕ) (k : ℕ) (one other : Letter)
    → k + 1 < length word → one ≡ get_or word k one → other ≡ get_or word (k + 1) other
    → StartsWith word bytes
    → key_of (slice_index bytes k) (slice_index bytes (k + 1)) ≡ key_of one.byte other.byte
key_in_word word bytes k one other inside is_one is_other starts =
    same_key (slice_index bytes k) (slice_index bytes (k + 1)) one.byte other.byte
    (remainder_at word bytes k one (omega arith) is_one starts)
    (remainder_at word bytes (k + 1) other inside is_other starts)

-- bytes with the same remainder change a hash alike
same_mixed : (hash a b : ℕ) → a % 32 ≡ b % 32 → mixed hash a ≡ mixed hash b
unfolding mixed
same_mixed hash a b same = cc

-- the hash of one byte more
pub hash_more : (bytes : List ℕ) (k : ℕ) → k < length bytes
    → hash_of (take (k + 1) bytes) ≡ mixed (hash_of (take k bytes)) (slice_index bytes k)
unfolding hash_of
hash_more bytes k inside =
    ap hash_of (take_more bytes k 0 inside)
    ∙ fold-append mixed 0 (take k bytes) (get_or bytes k 0 ∷ [])

-- the hash of the first bytes of a word, wherever it stands, is this one
abbrev pub HashesTo : (word : List Letter) → (k hash : ℕ) → Type 0
HashesTo word k hash = (bytes : List ℕ) → StartsWith word bytes → hash_of (take k bytes) ≡ hash

-- the hash of one letter more
pub word_hash_more : (word : List Letter) (k hash : ℕ) (letter : Letter) → k < length word
    → letter ≡ get_or word k letter → HashesTo word k hash
    → HashesTo word (k + 1) (mixed hash letter.byte)
word_hash_more word k hash letter inside is before bytes starts =
    let long = start_length word bytes starts in
    hash_more bytes k (omega (arith, inside, long))
    ∙ ap (λ h. mixed h (slice_index bytes k)) (before bytes starts)
    ∙ same_mixed hash _ _ (remainder_at word bytes k letter inside is starts)

-- in a list of which one item was lowered no item is greater than before
pub lowered : (xs : List ℕ) (i x k : ℕ) → i < length xs → x ≤ slice_index xs i
    → slice_index (slice_set xs i x) k ≤ slice_index xs k
lowered xs i x k inside lower = elim (cases_eq k i) [
  | inl same ↦
      let here = get_or-set_same xs i x 0 inside in
      let there : slice_index (slice_set xs i x) k ≡ slice_index (slice_set xs i x) i =
      ap (slice_index (slice_set xs i x)) same in
      let old : slice_index xs k ≡ slice_index xs i = ap (slice_index xs) same in
      omega (arith, here, there, old, lower)
  | inr apart ↦
      let elsewhere = get_or-set_other xs i k x 0 apart in
      omega (arith, elsewhere)
]

-- up to the shift of a pair of bytes that ends a reach, no word stands
pub none_before : (words : List (List Letter)) (bytes : List ℕ) (reach : ℕ) (shifts : List ℕ)
    (at p q shift : ℕ) → AreShifts words reach shifts → p + 2 ≡ at + reach → q ≡ p + 1
    → shift ≡ slice_index shifts (key_of (slice_index bytes p) (slice_index bytes q))
    → NoneStands words bytes at (at + shift)
none_before words bytes reach shifts at p q shift are ends next is from low high any =
    let (number, inside, stands) = any in
    let less = are.below (key_of (slice_index bytes p) (slice_index bytes q)) in
    let k = p - from in
    let front : from + k ≡ p = omega arith in
    let back : from + (k + 1) ≡ q = omega arith in
    let one : slice_index (drop from bytes) k ≡ slice_index bytes p =
    get_or-drop from bytes k 0 ∙ ap (slice_index bytes) front in
    let other : slice_index (drop from bytes) (k + 1) ≡ slice_index bytes q =
    get_or-drop from bytes (k + 1) 0 ∙ ap (slice_index bytes) back in
    let near = are.near number inside (drop from bytes) k stands (omega arith) in
    let same = ap (slice_index shifts) (ap₂ key_of one other) in
    omega (arith, near, same, is)

-- none stands up to an offset, and none from there on
pub none_on : (words : List (List Letter)) (bytes : List ℕ) (from at : ℕ)
    → NoneStands words bytes from at → ((k : ℕ) → at ≤ k → ¬ AnyStandsAt words bytes k)
    → (k : ℕ) → from ≤ k → ¬ AnyStandsAt words bytes k
none_on words bytes from at front back k low stands = elim (cases_lt k at) [
  | inl before ↦ front k low before stands
  | inr after ↦ back k after stands
]

-- where fewer bytes are left than each word has letters, none stands
pub at_end : (words : List (List Letter)) (bytes : List ℕ) (reach from at : ℕ)
    → ((number : ℕ) → number < length words → reach ≤ length (word_at words number))
    → at ≤ length bytes → length bytes - at < reach → NoneStands words bytes from at
    → (k : ℕ) → from ≤ k → ¬ AnyStandsAt words bytes k
at_end words bytes reach from at long inside few front k low (number, below, stands) =
    elim (cases_lt k at) [
      | inl before ↦ front k low before (number, below, stands)
      | inr after ↦
          let fits = start_length (word_at words number) (drop k bytes) stands in
          let left = length-drop k bytes in
          omega (arith, long number below, fits, left, few)
    ]

-- in a list of equal numbers none is greater, nor past its end
pub all_below : (keys shift key : ℕ) → slice_index (replicate keys shift) key ≤ shift
all_below zero shift key = omega arith
all_below (suc keys) shift zero = omega arith
all_below (suc keys) shift (suc key) = all_below keys shift key

-- where shifts never pass a word, lower ones don't either
pub never_after : (reach : ℕ) (before after : List ℕ) (word : List Letter)
    → ((key : ℕ) → slice_index after key ≤ slice_index before key)
    → NeverPasses reach before word → NeverPasses reach after word
never_after reach before after word lower near bytes k starts within =
    let old = near bytes k starts within in
    let new = lower (key_of (slice_index bytes k) (slice_index bytes (k + 1))) in
    omega (arith, old, new)
