-- Laws of what searches for several patterns return.
use Rattle.std.specs.Prelude.{◌≡◌, ◌↔◌, ℕ, List, [], ◌∷◌, Bool, IsTrue, Option, Some}
use Rattle.std.specs.Prelude.{None, is_some, option_map, option_and_then, slice_get}
use Rattle.regex_lite_engine.specs.declared.steps.Steps.{Steps}
use Rattle.regex_lite.specs.declared.string.matches.Match.{Match}
use Rattle.regex_lite.specs.Expression.{Expression, IsAccepted}
use Rattle.regex_lite.specs.Groups.{Groups, group_span}
use Rattle.regex_lite.specs.MatchViews.{span_of_match}
use Rattle.regex_lite.specs.RegexList.{AreAccepted}
use Rattle.regex_lite.specs.RegexListSearches.{AnyMatches, IsWithinListCost}
use Rattle.regex_lite.specs.RegexListSearches.{TellsGroupsOfList, TellsMatchOfList}
use Rattle.regex_lite.specs.Searches.{IsWithinCost, MatchesFrom, TellsGroups, TellsMatch}
use Rattle.regex_lite.specs.Settings.{Settings}

-- a result for the only pattern of a list, with its number 0
abbrev pub of_the_only : {A : Type 0} → Option A → Option (ℕ × A)
of_the_only reported = option_map (λ own. (0, own)) reported

-- a search of the list returns exactly what the search of its only pattern returns
pub record TellsAlike {A : Type 0} (alone : Option A → Type 0) (listed : Option (ℕ × A) → Type 0)
    : Type 0 where
  pub same : (reported : Option A) → alone reported ↔ listed (of_the_only reported)
  pub only : (reported : Option (ℕ × A)) → listed reported → (own : Option A)
      × (reported ≡ of_the_only own)

-- each search of a list of one pattern returns what the search of the pattern's regex returns,
-- within the same cost
pub record AnswersAsItsRegex (re : Expression) (haystack : List ℕ) (start : ℕ) : Type 0 where
  pub is_match : MatchesFrom re haystack start ↔ AnyMatches (re ∷ []) haystack start
  pub match : TellsAlike (TellsMatch re haystack start) (TellsMatchOfList (re ∷ []) haystack start)
  pub groups : TellsAlike (TellsGroups re haystack start)
      (TellsGroupsOfList (re ∷ []) haystack start)
  pub cost : (steps : Steps)
      → IsWithinCost re haystack start steps ↔ IsWithinListCost (re ∷ []) haystack start steps

abbrev pub ListOfOneAnswersAsItsRegex : Type 0
ListOfOneAnswersAsItsRegex =
    (re : Expression) (haystack : List ℕ) (start : ℕ) → AnswersAsItsRegex re haystack start

-- a list of one pattern is accepted exactly if the pattern is
abbrev pub ListOfOneIsAcceptedAsItsRegex : Type 0
ListOfOneIsAcceptedAsItsRegex =
    (settings : Settings) → IsAccepted settings ↔ AreAccepted (settings ∷ [])

-- no search of an empty list finds anything or tries a place
pub record FindsNothing (haystack : List ℕ) (start : ℕ) : Type 0 where
  pub is_match : AnyMatches [] haystack start → ⊥
  pub match : (reported : Option (ℕ × Match))
      → TellsMatchOfList [] haystack start reported ↔ (reported ≡ None)
  pub groups : (reported : Option (ℕ × Groups))
      → TellsGroupsOfList [] haystack start reported ↔ (reported ≡ None)
  pub cost : (steps : Steps) → IsWithinListCost [] haystack start steps → steps.tried ≡ 0

abbrev pub EmptyListFindsNothing : Type 0
EmptyListFindsNothing = (haystack : List ℕ) (start : ℕ) → FindsNothing haystack start

-- what a search of a list finds is what the search for the pattern with that number finds
abbrev pub ListAnswersAreAnswers : Type 0
ListAnswersAreAnswers =
    (list : List Expression) (haystack : List ℕ) (start number : ℕ)
    → ((reported : Match) → TellsMatchOfList list haystack start (Some (number, reported))
    → (re : Expression) × (slice_get list number ≡ Some re)
    × TellsMatch re haystack start (Some reported))
    × ((groups : Groups) → TellsGroupsOfList list haystack start (Some (number, groups))
    → (re : Expression) × (slice_get list number ≡ Some re)
    × TellsGroups re haystack start (Some groups))

-- the searches for whether a pattern matches, for the match and for its groups agree
pub record AgreeOnList (found : Bool) (reported : Option (ℕ × Match)) (groups : Option (ℕ × Groups))
    : Type 0 where
  pub with_match : is_some reported ≡ found
  pub with_groups : is_some groups ≡ found
  -- the match and the groups are of one pattern
  pub number : option_map (λ own. own.0) reported ≡ option_map (λ own. own.0) groups
  -- the match is group 0
  pub whole : option_map (λ own. span_of_match own.1) reported
      ≡ option_and_then (λ reported. group_span reported.1 0) groups

-- the searches of one list in one haystack, from one offset on, agree
abbrev pub ListSearchesAgree : Type 0
ListSearchesAgree =
    (list : List Expression) (haystack : List ℕ) (start : ℕ) (found : Bool)
    (reported : Option (ℕ × Match)) (groups : Option (ℕ × Groups))
    → (IsTrue found ↔ AnyMatches list haystack start) → TellsMatchOfList list haystack start
    reported → TellsGroupsOfList list haystack start groups → AgreeOnList found reported groups
