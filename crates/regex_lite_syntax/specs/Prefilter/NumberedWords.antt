-- The words of several patterns of which each is nothing but its words.
use Rattle.std.specs.Prelude.{◌≡◌, ◌↔◌, ◌+◌, ◌<◌, ◌≤◌, ℕ, Bool, false, IsTrue, List, Option, Some}
use Rattle.std.specs.Prelude.{IsCharBoundary, MatchOption, length, slice_get, slice_index}
use Rattle.std.specs.Prelude.{slice_index_or}
use Rattle.regex_lite_syntax.specs.Tree.{Tree}
use Rattle.regex_lite_syntax.specs.declared.prefilter.words.letter.Letter.{Letter}
use Rattle.regex_lite_syntax.specs.Prefilter.WholeWords.{IsItsWords}
use Rattle.regex_lite_syntax.specs.Prefilter.Words.{AnyStandsAt, AreWordsOfTree, IsFirstAt}
use Rattle.regex_lite_syntax.specs.Prefilter.Words.{NoneStands, WordStandsAt, word_at}

-- words, and beside each the number of the pattern whose word it is
pub record NumberedWords : Type 0 where
  pub words : List (List Letter)
  pub owners : List ℕ

-- The words of the tree, whose pattern has this number, stand together among all words, from one
-- of them on, and are all that the pattern has.
pub record HasItsWords (words : List (List Letter)) (owners : List ℕ) (number : ℕ) (tree : Tree)
    : Type 0 where
  pub own : List (List Letter)
  pub of_tree : AreWordsOfTree tree own
  pub are : IsItsWords tree own
  pub begin : ℕ
  pub inside : begin + length own ≤ length words
  pub same : (k : ℕ) → k < length own → word_at words (begin + k) ≡ word_at own k
  pub owned : (k : ℕ) → k < length own → slice_index owners (begin + k) ≡ number
  pub no_others : (k : ℕ) → k < length words → slice_index owners k ≡ number
      → (begin ≤ k) × (k < begin + length own)

-- they are the words of the first of the trees, as many of them, in the order of the trees
pub record AreGatheredFrom (trees : List Tree) (count : ℕ) (words : List (List Letter))
    (owners : List ℕ) : Type 0 where
  pub all : length owners ≡ length words
  pub below : (k : ℕ) → k < length words → slice_index owners k < count
  pub in_order : (k m : ℕ) → k ≤ m → m < length words
      → slice_index owners k ≤ slice_index owners m
  pub each : (number : ℕ) (tree : Tree) → number < count → slice_get trees number ≡ Some tree
      → HasItsWords words owners number tree

-- they are those of all the trees
abbrev pub AreWordsOfTrees : List Tree → NumberedWords → Type 0
AreWordsOfTrees trees numbered =
    AreGatheredFrom trees (length trees) numbered.words numbered.owners

-- The number of a pattern, and where the first of the words that stand at an offset starts and
-- ends: the word is the pattern's. A character begins there.
pub record IsSpanOfPattern (numbered : NumberedWords) (bytes : List ℕ) (reported : ℕ × (ℕ × ℕ))
    : Type 0 where
  pub number : ℕ
  pub stands : IsFirstAt numbered.words bytes reported.1.0 number
  pub boundary : IsCharBoundary bytes reported.1.0
  pub end : reported.1.1 ≡ reported.1.0 + length (word_at numbered.words number)
  pub owner : reported.0 ≡ slice_index numbered.owners number

-- the first offset from this one on at which a word stands, and the pattern and the end of the
-- first word that stands there
abbrev pub IsNextOfPatterns : NumberedWords → (bytes : List ℕ) → (from : ℕ)
    → Option (ℕ × (ℕ × ℕ)) → Type 0
IsNextOfPatterns numbered bytes from next = MatchOption next
    ((at : ℕ) → from ≤ at → ¬ AnyStandsAt numbered.words bytes at)
    (λ reported. (from ≤ reported.1.0) × NoneStands numbered.words bytes from reported.1.0
    × IsSpanOfPattern numbered bytes reported)

-- each word has its pattern, one of so many
pub record HavePatterns (numbered : NumberedWords) (patterns : ℕ) : Type 0 where
  pub all : length numbered.owners ≡ length numbered.words
  pub below : (k : ℕ) → k < length numbered.words → slice_index numbered.owners k < patterns

-- a word of the pattern with this number stands at the offset
abbrev pub PatternStandsAt : NumberedWords → (bytes : List ℕ) → (number at : ℕ) → Type 0
PatternStandsAt numbered bytes number at =
    (k : ℕ) × (k < length numbered.words) × (slice_index numbered.owners k ≡ number)
    × WordStandsAt numbered.words bytes k at

-- one does at an offset from this one on, at which a character begins
abbrev pub PatternStandsFrom : NumberedWords → (bytes : List ℕ) → (from number : ℕ) → Type 0
PatternStandsFrom numbered bytes from number =
    (at : ℕ) × (from ≤ at) × IsCharBoundary bytes at × PatternStandsAt numbered bytes number at

-- for each pattern, in the order of their numbers, whether one does
abbrev pub TellsWhichStand : NumberedWords → (bytes : List ℕ) → (from : ℕ) → (reported : List Bool)
    → Type 0
TellsWhichStand numbered bytes from reported =
    (number : ℕ) → IsTrue (slice_index_or reported number false)
    ↔ PatternStandsFrom numbered bytes from number
