-- Words with which matches begin, as bytes of UTF-8.
use Rattle.std.specs.Prelude.{◌≡◌, ◌⊎◌, ◌≤◌, ◌<◌, ℕ, List, [], ◌∷◌, Option, MatchOption}
use Rattle.std.specs.Prelude.{drop, encode_utf8_all, length, slice_index_or}
use Rattle.regex_lite_syntax.specs.Text.{Text}
use Rattle.regex_lite_syntax.specs.Tree.{Tree}
use Rattle.regex_lite_syntax.specs.Tree.Matches.{Matches}
use Rattle.regex_lite_syntax.specs.declared.prefilter.words.letter.Letter.{Letter}

-- the byte is this one or the other
abbrev pub IsLetter : Letter → ℕ → Type 0
IsLetter letter byte = (byte ≡ letter.byte) ⊎ (byte ≡ letter.other)

-- the bytes begin with the word
abbrev pub StartsWith : (word : List Letter) → (bytes : List ℕ) → Type 0
StartsWith [] bytes = Unit {0}
StartsWith (letter ∷ word) [] = ⊥
StartsWith (letter ∷ word) (byte ∷ bytes) = IsLetter letter byte × StartsWith word bytes

-- the word with this number
abbrev pub word_at : List (List Letter) → ℕ → List Letter
word_at words number = slice_index_or words number []

-- the word with this number stands at the offset
abbrev pub WordStandsAt : (words : List (List Letter)) → (bytes : List ℕ) → (number at : ℕ) → Type 0
WordStandsAt words bytes number at = StartsWith (word_at words number) (drop at bytes)

-- one of the words does
abbrev pub AnyStandsAt : (words : List (List Letter)) → (bytes : List ℕ) → (at : ℕ) → Type 0
AnyStandsAt words bytes at =
    (number : ℕ) × (number < length words) × WordStandsAt words bytes number at

-- none stands from one offset up to the other
abbrev pub NoneStands : (words : List (List Letter)) → (bytes : List ℕ) → (from to : ℕ) → Type 0
NoneStands words bytes from to =
    (at : ℕ) → from ≤ at → at < to → ¬ AnyStandsAt words bytes at

-- this one does, and none before it in the order of the words
pub record IsFirstAt (words : List (List Letter)) (bytes : List ℕ) (at number : ℕ) : Type 0 where
  pub inside : number < length words
  pub stands : WordStandsAt words bytes number at
  pub first : (other : ℕ) → other < number → ¬ WordStandsAt words bytes other at

-- the first offset from this one on at which a word stands, and the first word that stands there
abbrev pub IsNextWord : (words : List (List Letter)) → (bytes : List ℕ) → (from : ℕ)
    → Option (ℕ × ℕ) → Type 0
IsNextWord words bytes from next = MatchOption next
    ((at : ℕ) → from ≤ at → ¬ AnyStandsAt words bytes at)
    (λ next. (from ≤ next.0) × NoneStands words bytes from next.0
    × IsFirstAt words bytes next.0 next.1)

-- a character begins with this byte
abbrev pub IsLead : ℕ → Type 0
IsLead byte = (byte < 128) ⊎ (192 ≤ byte)

-- the word has a letter at least, and begins where a character does
pub record IsSuited (word : List Letter) : Type 0 where
  pub some : 0 < length word
  pub lead : (byte : ℕ) (bytes : List ℕ) → StartsWith word (byte ∷ bytes) → IsLead byte

-- so does each of these
abbrev pub AreSuited : List (List Letter) → Type 0
AreSuited words = (number : ℕ) → number < length words → IsSuited (word_at words number)

-- each of these has two letters at least
abbrev pub AreLong : List (List Letter) → Type 0
AreLong words = (number : ℕ) → number < length words → 2 ≤ length (word_at words number)

-- each match of the tree begins with one of the words
abbrev pub AreWordsOfTree : Tree → List (List Letter) → Type 0
AreWordsOfTree tree words =
    (haystack : Text) (i j : ℕ) → Matches haystack tree i j
    → AnyStandsAt words (encode_utf8_all (drop i haystack)) 0
