-- The matches ahead of an iterator over the matches of several patterns.
use Rattle.std.specs.Prelude.{◌≡◌, ℕ, List, Option, Some, None, MatchOption}
use Rattle.std.specs.Prelude.{Result, MatchResult, chars, slice_get}
use Rattle.regex_lite_syntax.specs.declared.error.Error.{Error}
use Rattle.regex_lite_syntax.specs.Errors.{out_of_memory}
use Rattle.regex_lite_engine.specs.Search.Answer.{Found}
use Rattle.regex_lite.specs.declared.string.matches.Match.{Match}
use Rattle.regex_lite.specs.Ahead.{AheadOf, EndsAhead, IsOnward, NoneIsAhead, PassesAnswer, after}
use Rattle.regex_lite.specs.Ahead.{ahead_by, at_end, whole}
use Rattle.regex_lite.specs.Expression.{Expression}
use Rattle.regex_lite.specs.Groups.{Groups, whole_span}
use Rattle.regex_lite.specs.Items.{AreGroupsFound}
use Rattle.regex_lite.specs.MatchList.{IsAnswerOfPatterns, IsNextOfList}
use Rattle.regex_lite.specs.MatchViews.{span_of_match}
use Rattle.regex_lite.specs.Scanning.{Scanning}
use Rattle.regex_lite.specs.Searches.{IsMatchOf}

-- the matches ahead for a list of patterns; an answer is the number of a pattern and what was found
-- of it
abbrev pub ListAhead : Type 0
ListAhead = AheadOf (List Expression)

-- all matches in the haystack
abbrev pub whole_list : List Expression → (haystack : List ℕ) → ListAhead
whole_list list haystack = whole list haystack None

-- the matches after one that ended at this offset, or all matches
abbrev pub list_after : List Expression → (haystack : List ℕ) → (ended : Option ℕ) → ListAhead
list_after list haystack ended = after list haystack ended

-- this match comes next, or none comes
abbrev pub ListComesNext : ListAhead → Option (ℕ × Found) → Type 0
ListComesNext ahead = IsNextOfList ahead.sought (chars ahead.haystack) ahead.ended

-- no match is ahead
abbrev pub IsListOver : ListAhead → Type 0
IsListOver ahead = NoneIsAhead (λ (own : ℕ × Found). own.1) IsAnswerOfPatterns ahead

-- this match was passed
abbrev pub ListPasses : (old : ListAhead) → ℕ × Found → (new : ListAhead) → Type 0
ListPasses old answer new = PassesAnswer (λ own. own.1) IsAnswerOfPatterns old answer new

-- no match was ahead, and none is ahead from then on
abbrev pub ListEnds : (old new : ListAhead) → Type 0
ListEnds old new = EndsAhead (λ (own : ℕ × Found). own.1) IsAnswerOfPatterns old new

-- The matches ahead of iterators

abbrev pub list_ahead_of : Scanning (List Expression) → ListAhead
list_ahead_of it = ahead_by (λ own. own) it

-- the next match was returned with the number of its pattern; or there was none, and none comes
-- from then on
abbrev pub GivesListMatch : (old : Scanning (List Expression)) → Option (ℕ × Match)
    → (new : Scanning (List Expression)) → Type 0
GivesListMatch old item new =
    MatchOption item (ListEnds (list_ahead_of old) (list_ahead_of new))
    (λ reported. (found : Found) × IsMatchOf old.haystack found reported.1
    × IsOnward old.ended (span_of_match reported.1)
    × (new.ended ≡ Some (span_of_match reported.1).1) × ListPasses (list_ahead_of old)
    (reported.0, found) (list_ahead_of new))

-- the groups are those of what was found of the pattern with this number
abbrev pub AreGroupsFoundInList : List Expression → (haystack : List ℕ) → (number : ℕ) → Found
    → Groups → Type 0
AreGroupsFoundInList list haystack number found groups =
    (re : Expression) × (slice_get list number ≡ Some re)
    × AreGroupsFound re haystack found groups

-- the groups of the next match were returned with the number of its pattern; or memory ran out for
-- them, or there was no match, and none comes from then on
abbrev pub GivesListGroups : (old : Scanning (List Expression))
    → Option (Result (ℕ × Groups) Error) → (new : Scanning (List Expression)) → Type 0
GivesListGroups old item new =
    MatchOption item (ListEnds (list_ahead_of old) (list_ahead_of new))
    (λ answer. MatchResult answer
    (λ reported. (found : Found) × AreGroupsFoundInList old.finder old.haystack reported.0 found
    reported.1 × IsOnward old.ended (whole_span reported.1)
    × (new.ended ≡ Some (whole_span reported.1).1) × ListPasses (list_ahead_of old)
    (reported.0, found) (list_ahead_of new))
    (λ error. (error ≡ out_of_memory) × (IsListOver (list_ahead_of old) → ⊥)
    × (list_ahead_of new ≡ at_end (list_ahead_of old))))
