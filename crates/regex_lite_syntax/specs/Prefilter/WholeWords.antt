-- Patterns that are their words: a row of characters and of letters in any case, in which parts
-- may stand a fixed number of times, or an alternation of such rows.
use Rattle.std.specs.Prelude.{◌≡◌, ◌⊎◌, ◌+◌, ◌<◌, ◌≤◌, ℕ, zero, suc, List, [], ◌∷◌, ◌++◌}
use Rattle.std.specs.Prelude.{IsTrue, length, Option, Some, IsCharBoundary, MatchOption}
use Rattle.std.specs.Prelude.{encode_utf8}
use Rattle.regex_lite_syntax.specs.Ranges.{in_ranges}
use Rattle.regex_lite_syntax.specs.Tree.{Tree, Trees, empty, character, class, look, repetition}
use Rattle.regex_lite_syntax.specs.Tree.{capture, concat, alternation, none, more}
use Rattle.regex_lite_syntax.specs.declared.prefilter.words.letter.Letter.{Letter}
use Rattle.regex_lite_syntax.specs.Prefilter.Words.{AnyStandsAt, IsFirstAt, IsLetter, NoneStands}
use Rattle.regex_lite_syntax.specs.Prefilter.Words.{word_at}

-- the letters are these bytes, in no other case
abbrev pub AreBytes : (bytes : List ℕ) → (letters : List Letter) → Type 0
AreBytes [] [] = Unit {0}
AreBytes [] (letter ∷ letters) = ⊥
AreBytes (byte ∷ bytes) [] = ⊥
AreBytes (byte ∷ bytes) (letter ∷ letters) =
    (letter.byte ≡ byte) × (letter.other ≡ byte) × AreBytes bytes letters

-- the set has the two cases of the letter, which are ASCII, and nothing else
pub record HasCases (set : ℕ → Type 0) (letter : Letter) : Type 0 where
  pub ascii : letter.byte < 128
  pub other_ascii : letter.other < 128
  pub has : (c : ℕ) → set c → IsLetter letter c
  pub no_others : (c : ℕ) → IsLetter letter c → set c

-- the letters are those of so many such parts, one after another
abbrev pub ArePasses : (IsPart : List Letter → Type 0) → ℕ → (word : List Letter) → Type 0
ArePasses IsPart zero word = word ≡ []
ArePasses IsPart (suc n) word =
    (letters : List Letter) × (others : List Letter) × (word ≡ letters ++ others)
    × IsPart letters × ArePasses IsPart n others

abbrev mutual
  -- the tree is a character, a letter in any case, a row of such trees, or one of them a fixed
  -- number of times, and nothing but this word
  pub IsSpelled : Tree → (word : List Letter) → Type 0
  IsSpelled (character c) word = AreBytes (encode_utf8 c) word
  IsSpelled (class ranges) word =
      (letter : Letter) × (word ≡ letter ∷ [])
      × HasCases (λ c. IsTrue (in_ranges ranges c)) letter
  IsSpelled (repetition least most greedy body) word =
      (0 < least) × (most ≡ Some least) × ArePasses (IsSpelled body) least word
  IsSpelled (concat parts) word = AreSpelled parts word
  IsSpelled empty word = ⊥
  IsSpelled (look test) word = ⊥
  IsSpelled (capture index name body) word = ⊥
  IsSpelled (alternation branches) word = ⊥

  -- the parts are such trees, and their letters in a row make the word
  pub AreSpelled : Trees → (word : List Letter) → Type 0
  AreSpelled none word = word ≡ []
  AreSpelled (more part rest) word =
      (letters : List Letter) × (others : List Letter) × (word ≡ letters ++ others)
      × IsSpelled part letters × AreSpelled rest others

-- each branch is the word with its number
abbrev pub AreWholeWords : Trees → (words : List (List Letter)) → Type 0
AreWholeWords none [] = Unit {0}
AreWholeWords none (word ∷ words) = ⊥
AreWholeWords (more branch rest) [] = ⊥
AreWholeWords (more branch rest) (word ∷ words) =
    IsSpelled branch word × AreWholeWords rest words

-- the tree is one word, or an alternation of words, and has no others
abbrev pub IsItsWords : Tree → (words : List (List Letter)) → Type 0
IsItsWords tree words =
    ((word : List Letter) × (words ≡ word ∷ []) × IsSpelled tree word)
    ⊎ ((branches : Trees) × (tree ≡ alternation branches) × AreWholeWords branches words)

-- where the first of the words that stand at an offset starts and ends. A character begins there
pub record IsSpanOfWord (words : List (List Letter)) (bytes : List ℕ) (span : ℕ × ℕ) : Type 0 where
  pub number : ℕ
  pub stands : IsFirstAt words bytes span.0 number
  pub boundary : IsCharBoundary bytes span.0
  pub end : span.1 ≡ span.0 + length (word_at words number)

-- the first offset from this one on at which a word stands, and the end of the first word that
-- stands there
abbrev pub IsNextSpan : (words : List (List Letter)) → (bytes : List ℕ) → (from : ℕ)
    → Option (ℕ × ℕ) → Type 0
IsNextSpan words bytes from next = MatchOption next
    ((at : ℕ) → from ≤ at → ¬ AnyStandsAt words bytes at)
    (λ span. (from ≤ span.0) × NoneStands words bytes from span.0 × IsSpanOfWord words bytes span)
