-- The items of an iterator over matches, in terms of the matches ahead before and after each.
use Rattle.std.specs.Prelude.{◌≡◌, ℕ, List, Option, Some, MatchOption, Result, MatchResult}
use Rattle.regex_lite_syntax.specs.declared.error.Error.{Error}
use Rattle.regex_lite_syntax.specs.Errors.{out_of_memory}
use Rattle.regex_lite_syntax.specs.Text.{Text}
use Rattle.regex_lite_engine.specs.Search.Answer.{Found}
use Rattle.regex_lite.specs.declared.string.matches.Match.{Match}
use Rattle.regex_lite.specs.Ahead.{Ends, EndsAhead, IsOnward, IsOver, NoneIsAhead, Passes}
use Rattle.regex_lite.specs.Ahead.{PassesAnswer, ahead_by, ahead_of, at_end}
use Rattle.regex_lite.specs.Expression.{Expression, OfTree}
use Rattle.regex_lite.specs.Groups.{Groups, whole_span}
use Rattle.regex_lite.specs.MatchViews.{span_of_match}
use Rattle.regex_lite.specs.Scanning.{IsMatchWithSlots, Scanning}
use Rattle.regex_lite.specs.Searches.{AreGroupsOf, IsMatchOf}

-- the next match was returned; or there was none, and none comes from then on
abbrev pub GivesMatch : (old : Scanning Expression) → Option Match → (new : Scanning Expression)
    → Type 0
GivesMatch old item new =
    MatchOption item (Ends (ahead_of old) (ahead_of new))
    (λ reported. (found : Found) × IsMatchOf old.haystack found reported
    × IsOnward old.ended (span_of_match reported) × (new.ended ≡ Some (span_of_match reported).1)
    × Passes (ahead_of old) found (ahead_of new))

-- for any finder, of one pattern or several: the next match was returned with the number of its
-- pattern, and its slots are kept; or there was none, and none comes from then on
module _ {F S A N : Type 0} (sought : F → S) (slots : F → List (Option ℕ)) (found_of : A → Found)
    (number_of : A → N) (IsAnswerTo : S → Text → (s : ℕ) → Option A → Type 0) where
  abbrev pub Came : (old : Scanning F) → N × Match → (new : Scanning F) → Type 0
  Came old reported new =
      (answer : A)
      × IsMatchWithSlots found_of number_of old.haystack (slots new.finder) answer reported
      × IsOnward old.ended (span_of_match reported.1)
      × (new.ended ≡ Some (span_of_match reported.1).1) × PassesAnswer found_of IsAnswerTo
      (ahead_by sought old) answer (ahead_by sought new)

  abbrev pub GivesNext : (old : Scanning F) → Option (N × Match) → (new : Scanning F) → Type 0
  GivesNext old item new =
      MatchOption item
      (EndsAhead found_of IsAnswerTo (ahead_by sought old) (ahead_by sought new))
      (λ reported. Came old reported new)

-- the groups of the next match were returned with the number of its pattern; or memory ran out for
-- them, or there was no match, and none comes from then on
module _ {F S A N : Type 0} (sought : F → S) (found_of : A → Found) (number_of : A → N)
    (IsAnswerTo : S → Text → (s : ℕ) → Option A → Type 0)
    (AreFound : S → (haystack : List ℕ) → A → Groups → Type 0) where
  abbrev pub GroupsCame : (old : Scanning F) → N × Groups → (new : Scanning F) → Type 0
  GroupsCame old reported new =
      (answer : A) × (reported.0 ≡ number_of answer)
      × AreFound (sought old.finder) old.haystack answer reported.1
      × IsOnward old.ended (whole_span reported.1) × (new.ended ≡ Some (whole_span reported.1).1)
      × PassesAnswer found_of IsAnswerTo (ahead_by sought old) answer (ahead_by sought new)

  abbrev pub GivesNextGroups : (old : Scanning F) → Option (Result (N × Groups) Error)
      → (new : Scanning F) → Type 0
  GivesNextGroups old item new =
      MatchOption item
      (EndsAhead found_of IsAnswerTo (ahead_by sought old) (ahead_by sought new))
      (λ answer. MatchResult answer (λ reported. GroupsCame old reported new)
      (λ error. (error ≡ out_of_memory)
      × (NoneIsAhead found_of IsAnswerTo (ahead_by sought old) → ⊥)
      × (ahead_by sought new ≡ at_end (ahead_by sought old))))

-- the groups are those of what was found
abbrev pub AreGroupsFound : Expression → (haystack : List ℕ) → Found → Groups → Type 0
AreGroupsFound re haystack found groups =
    OfTree re (λ tree. AreGroupsOf tree haystack found groups)

-- the groups of the next match were returned; or memory ran out for them, or there was no match,
-- and none comes from then on
abbrev pub GivesGroups : (old : Scanning Expression) → Option (Result Groups Error)
    → (new : Scanning Expression) → Type 0
GivesGroups old item new =
    MatchOption item (Ends (ahead_of old) (ahead_of new))
    (λ answer. MatchResult answer
    (λ groups. (found : Found) × AreGroupsFound old.finder old.haystack found groups
    × IsOnward old.ended (whole_span groups) × (new.ended ≡ Some (whole_span groups).1)
    × Passes (ahead_of old) found (ahead_of new))
    (λ error. (error ≡ out_of_memory) × (IsOver (ahead_of old) → ⊥)
    × (ahead_of new ≡ at_end (ahead_of old))))
