-- Laws of searches for several patterns.
use Rattle.std.specs.Prelude.{◌≡◌, ◌↔◌, ℕ, List, [], ◌∷◌, Option, Some, None, IsSome, option_map}
use Rattle.regex_lite_syntax.specs.Text.{Text}
use Rattle.regex_lite_syntax.specs.Tree.{Tree}
use Rattle.regex_lite_engine.specs.WayLaws.{IsPatternTree}
use Rattle.regex_lite_engine.specs.Graph.WrittenOut.{IsWayThrough}
use Rattle.regex_lite_engine.specs.Graph.SideBySide.{IsWayOfPattern}
use Rattle.regex_lite_engine.specs.Search.Answer.{Found, IsMatchFrom, IsAnswer}
use Rattle.regex_lite_engine.specs.Search.AnswerOfList.{AnyMatchesFrom, IsAnswerOfList}
use Rattle.regex_lite_engine.specs.Graph.SideBySide.{HasTree}

-- each of these trees is the tree of some pattern
abbrev pub ArePatternTrees : List Tree → Type 0
ArePatternTrees trees = (k : ℕ) (tree : Tree) → HasTree trees k tree → IsPatternTree tree

-- the ways of a pattern among others are those through the pattern by itself
abbrev pub PatternsStandApart : Type 0
PatternsStandApart =
    (trees : List Tree) (number : ℕ) (tree : Tree) → HasTree trees number tree
    → (haystack : Text) (i : ℕ) (arrows : List ℕ) (j : ℕ)
    → IsWayOfPattern trees number haystack i arrows j ↔ IsWayThrough tree haystack i arrows j

-- each search has an answer, and no search has two
abbrev pub HasAnswerOfList : Type 0
HasAnswerOfList =
    (trees : List Tree) → ArePatternTrees trees → (haystack : Text) (s : ℕ)
    → (answer : Option (ℕ × Found)) × IsAnswerOfList trees haystack s answer

abbrev pub AtMostOneAnswerOfList : Type 0
AtMostOneAnswerOfList =
    (trees : List Tree) → ArePatternTrees trees → (haystack : Text) (s : ℕ)
    (a b : Option (ℕ × Found)) → IsAnswerOfList trees haystack s a
    → IsAnswerOfList trees haystack s b → a ≡ b

-- something is found exactly if some pattern matches from a position at or after the start, and
-- what is found is a match of the pattern with the number, and its answer
abbrev pub ListAnswersAreAnswers : Type 0
ListAnswersAreAnswers =
    (trees : List Tree) → ArePatternTrees trees → (haystack : Text) (s : ℕ)
    (answer : Option (ℕ × Found)) → IsAnswerOfList trees haystack s answer
    → (IsSome answer ↔ AnyMatchesFrom trees haystack s)
    × ((number : ℕ) (found : Found) → answer ≡ Some (number, found)
    → (tree : Tree) × HasTree trees number tree
    × IsMatchFrom tree haystack s found.start found.end
    × IsAnswer tree haystack s (Some found))

-- the number of the only pattern, with what was found
abbrev pub by_itself : Option Found → Option (ℕ × Found)
by_itself answer = option_map (λ found. (0, found)) answer

-- a list of one pattern has the answer of the pattern
abbrev pub OneAnswersByItself : Type 0
OneAnswersByItself =
    (tree : Tree) → IsPatternTree tree → (haystack : Text) (s : ℕ) (answer : Option Found)
    → IsAnswer tree haystack s answer
    ↔ IsAnswerOfList (tree ∷ []) haystack s (by_itself answer)

-- an empty list matches nothing
abbrev pub NoneMatchNothing : Type 0
NoneMatchNothing = (haystack : Text) (s : ℕ) → IsAnswerOfList [] haystack s None
