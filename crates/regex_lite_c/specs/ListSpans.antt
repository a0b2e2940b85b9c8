-- What searches for several patterns return.
use Rattle.std.specs.Prelude.{◌≡◌, ◌≢◌, ◌⊎◌, ◌<◌, ℕ, Bool, List, Option, Some}
use Rattle.std.specs.Prelude.{chars, cond, length}
use Rattle.regex_lite.specs.Expression.{Expression}
use Rattle.regex_lite.specs.Groups.{Groups}
use Rattle.regex_lite.specs.RegexListSearches.{TellsAnswerOfList, TellsGroupsOfList}
use Rattle.regex_lite.specs.RegexListSearches.{TellsWhichMatch}
use Rattle.regex_lite.specs.Searches.{offsets}
use Rattle.regex_lite_c.specs.Answers.{IsFailure, RefusesText}
use Rattle.regex_lite_c.specs.Spans.{AreWrittenAs}
use Rattle.regex_lite_c.specs.declared.answer.TheConstants.{YES, NO_ROOM}
use Rattle.regex_lite_c.specs.declared.list.types.ListGroups.{ListGroups}
use Rattle.regex_lite_c.specs.declared.list.types.ListSpan.{ListSpan}

-- the span that stands for a match of the pattern with this number, from one offset to another
abbrev pub list_span_of : ℕ × (ℕ × ℕ) → ListSpan
list_span_of reported = record { number = reported.0; start = reported.1.0; end = reported.1.1 }

-- a search for the patterns from this offset on returns the number of the pattern that matches, and
-- the span of its match
abbrev pub TellsListSpan : List Expression → (haystack : List ℕ) → (start : ℕ)
    → Option (ℕ × (ℕ × ℕ)) → Type 0
TellsListSpan list haystack start reported =
    TellsAnswerOfList
    (λ tree found span. span ≡ offsets (chars haystack) (found.start, found.end))
    list haystack start reported

-- the search finds a match with this span and this number of its pattern
abbrev pub FindsListSpan : List Expression → (haystack : List ℕ) → (start : ℕ) → ListSpan → Type 0
FindsListSpan list haystack start span =
    (reported : ℕ × (ℕ × ℕ)) × TellsListSpan list haystack start (Some reported)
    × (span ≡ list_span_of reported)

-- these are the groups of the match that starts first from this offset on; their count and the
-- number of their pattern are returned
abbrev pub AreFirstListGroups : List Expression → (haystack : List ℕ) → (start : ℕ) → ListGroups
    → Groups → Type 0
AreFirstListGroups list haystack start reported groups =
    TellsGroupsOfList list haystack start (Some (reported.number, groups))
    × (reported.count ≡ length groups.spans)

-- a byte for a pattern: 1 if it matches, and 0 if it doesn't
abbrev pub flag_of : Bool → ℕ
flag_of matches = cond matches 1 0

-- whether each pattern matches from this offset on, for this many patterns
abbrev pub AreReportedFlags : List Expression → (haystack : List ℕ) → (start count : ℕ) → List Bool
    → Type 0
AreReportedFlags list haystack start count matched =
    TellsWhichMatch list haystack start matched × (count ≡ length matched)

-- the answer to the question which patterns match
pub record IsFlagsAnswer (list : List Expression) (bytes : List ℕ) (start : ℕ)
    (old new : List ℕ) (old_count count answer : ℕ) : Type 0 where
  pub reported : answer ≡ YES → (matched : List Bool) × AreReportedFlags list bytes start count
      matched × AreWrittenAs flag_of matched old new
  pub no_room : answer ≡ NO_ROOM → (matched : List Bool)
      × AreReportedFlags list bytes start count matched × (length old < count)
  pub same : answer ≢ YES → new ≡ old
  pub same_count : answer ≢ YES → answer ≢ NO_ROOM → count ≡ old_count
  pub refused : RefusesText bytes start answer
  pub one_of : (answer ≡ YES) ⊎ IsFailure answer
