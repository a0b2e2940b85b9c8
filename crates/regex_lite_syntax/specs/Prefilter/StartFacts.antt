-- What is known of the positions at which the matches of a pattern can begin.
use Rattle.std.specs.Prelude.{◌≡◌, ◌⊎◌, ℕ, Bool, List, Option, Some, IfSome, IsTrue, MatchOption}
use Rattle.std.specs.Prelude.{drop, encode_utf8_all, length, slice_get}
use Rattle.regex_lite_syntax.specs.Text.{Text}
use Rattle.regex_lite_syntax.specs.Tree.{Tree}
use Rattle.regex_lite_syntax.specs.declared.prefilter.prefixes.PrefixSets.{PrefixSets}
use Rattle.regex_lite_syntax.specs.declared.prefilter.words.letter.Letter.{Letter}
use Rattle.regex_lite_syntax.specs.Prefilter.PrefixSets.{ArePrefixSetsOfTree, NeverBegins}
use Rattle.regex_lite_syntax.specs.Prefilter.Needed.{IsNeededBy, IsOutOfReach, NeededWords}
use Rattle.regex_lite_syntax.specs.Prefilter.WholeWords.{IsItsWords}
use Rattle.regex_lite_syntax.specs.Prefilter.Words.{AnyStandsAt, AreWordsOfTree}

-- the two characters with which a match can begin, the words of which it begins with one, if there
-- are such words, whether it is nothing but one of them, and a word that stands in it with what may
-- stand before that, if one is known
pub record StartFacts : Type 0 where
  pub prefixes : PrefixSets
  pub words : Option (List (List Letter))
  pub are_all : Bool
  pub needed : Option NeededWords

-- this is so of the matches of the tree
pub record AreFactsOfTree (tree : Tree) (facts : StartFacts) : Type 0 where
  pub prefixes : ArePrefixSetsOfTree tree facts.prefixes
  pub words : IfSome facts.words (AreWordsOfTree tree)
  pub all : IsTrue facts.are_all → IfSome facts.words (IsItsWords tree)
  pub needed : IfSome facts.needed (IsNeededBy tree)

-- no word stands at the position
abbrev pub NoneStandsIn : List (List Letter) → Text → ℕ → Type 0
NoneStandsIn words haystack i = ¬ AnyStandsAt words (encode_utf8_all (drop i haystack)) 0

-- none can begin at the position, judging by its first two characters, or since no word stands
-- there, or since what each match needs isn't reached from there
abbrev pub NeverStarts : StartFacts → Text → ℕ → Type 0
NeverStarts facts haystack i =
    NeverBegins facts.prefixes haystack i
    ⊎ MatchOption facts.words ⊥ (λ words. NoneStandsIn words haystack i)
    ⊎ MatchOption facts.needed ⊥ (λ needed. IsOutOfReach needed haystack i)

-- of each tree of a list this is known
pub record AreEachFactsOf (trees : List Tree) (list : List StartFacts) : Type 0 where
  pub all : length list ≡ length trees
  pub each : (number : ℕ) (tree : Tree) (facts : StartFacts) → slice_get trees number ≡ Some tree
      → slice_get list number ≡ Some facts → AreFactsOfTree tree facts
