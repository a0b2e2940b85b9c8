-- What searches for several patterns return, as offsets.
use Rattle.std.specs.Prelude.{◌≡◌, ℕ, Bool, List, Option, Some, None, chars, length}
use Rattle.std.specs.Prelude.{slice_get}
use Rattle.regex_lite_syntax.specs.Text.{Text}
use Rattle.regex_lite_syntax.specs.Tree.{Tree}
use Rattle.regex_lite_syntax.specs.Tree.Properties.{captures_len}
use Rattle.regex_lite_engine.specs.declared.steps.Steps.{Steps}
use Rattle.regex_lite_engine.specs.Search.Answer.{Found}
use Rattle.regex_lite_engine.specs.Search.AnswerOfList.{AnyMatchesFrom, IsAnswerOfList}
use Rattle.regex_lite_engine.specs.Search.AnswerOfList.{IsFoundInList, TellsWhich}
use Rattle.regex_lite_engine.specs.Search.Offsets.{search_start}
use Rattle.regex_lite_engine.specs.Search.Outcomes.{HasCostOfList}
use Rattle.regex_lite.specs.declared.string.matches.Match.{Match}
use Rattle.regex_lite.specs.Expression.{Expression}
use Rattle.regex_lite.specs.Groups.{Groups, resized}
use Rattle.regex_lite.specs.RegexList.{OfTrees}
use Rattle.regex_lite.specs.Searches.{AreGroupsOf, AreOfMatch, IsMatchOf, spans_from}

-- one of the patterns matches from some position at or after this offset
abbrev pub AnyMatches : List Expression → (haystack : List ℕ) → (start : ℕ) → Type 0
AnyMatches list haystack start =
    OfTrees list (λ trees. AnyMatchesFrom trees (chars haystack) (search_start haystack start))

-- for each pattern, by its number, whether it matches from some position at or after this offset
abbrev pub TellsWhichMatch : List Expression → (haystack : List ℕ) → (start : ℕ)
    → (matched : List Bool) → Type 0
TellsWhichMatch list haystack start matched =
    OfTrees list (λ trees.
    TellsWhich trees (chars haystack) (search_start haystack start) matched)

-- what a search from position s on returns: `None` if there is no match, and otherwise the number
-- of the pattern and a value of which `says` holds for its tree and what is found
abbrev pub TellsOfList : {A : Type 0} → (says : Tree → Found → A → Type 0)
    → List Tree → Text → (s : ℕ) → Option (ℕ × A) → Type 0
TellsOfList says trees haystack s None = IsAnswerOfList trees haystack s None
TellsOfList says trees haystack s (Some reported) =
    (found : Found) × (answer : IsFoundInList trees haystack s reported.0 found)
    × says answer.tree found reported.1

-- what a search for the patterns from this offset on returns, in the same way
abbrev pub TellsAnswerOfList : {A : Type 0} → (says : Tree → Found → A → Type 0)
    → List Expression → (haystack : List ℕ) → (start : ℕ) → Option (ℕ × A) → Type 0
TellsAnswerOfList says list haystack start reported =
    OfTrees list (λ trees.
    TellsOfList says trees (chars haystack) (search_start haystack start) reported)

-- the search returns the match, with the number of its pattern
abbrev pub TellsMatchOfList : List Expression → (haystack : List ℕ) → (start : ℕ)
    → Option (ℕ × Match) → Type 0
TellsMatchOfList list haystack start reported =
    TellsAnswerOfList (λ tree. IsMatchOf haystack) list haystack start reported

-- the search returns the groups, with the number of their pattern
abbrev pub TellsGroupsOfList : List Expression → (haystack : List ℕ) → (start : ℕ)
    → Option (ℕ × Groups) → Type 0
TellsGroupsOfList list haystack start reported =
    TellsAnswerOfList (λ tree. AreGroupsOf tree haystack) list haystack start reported

-- these are the groups of a match of the pattern with this number
pub record AreOfPattern (list : List Expression) (reported : ℕ × Groups) : Type 0 where
  pub re : Expression
  pub numbered : slice_get list reported.0 ≡ Some re
  pub of_match : AreOfMatch re reported.1

-- the search returns the match, with the number of its pattern, and these are the spans of that
-- pattern's groups by index: those of its first groups where it has more than there are spans, and
-- none after its last one where it has fewer
abbrev pub TellsLocationsOfList : List Expression → (haystack : List ℕ) → (start : ℕ)
    → List (Option (ℕ × ℕ)) → Option (ℕ × Match) → Type 0
TellsLocationsOfList list haystack start spans reported =
    TellsAnswerOfList (λ tree found m. IsMatchOf haystack found m
    × (spans ≡ resized (length spans)
    (spans_from (chars haystack) found.marks 0 (captures_len tree))))
    list haystack start reported

-- the cost of the search is within the bound by the places and arrows of the compiled patterns
abbrev pub IsWithinListCost : List Expression → (haystack : List ℕ) → (start : ℕ) → Steps → Type 0
IsWithinListCost list haystack start steps =
    OfTrees list (λ trees. HasCostOfList trees haystack start steps)
