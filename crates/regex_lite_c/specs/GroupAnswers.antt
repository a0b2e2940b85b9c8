-- What is returned for the groups of a match.
use Rattle.std.specs.Prelude.{◌≡◌, ◌≢◌, ◌⊎◌, ◌<◌, ◌≤◌, ℕ, List, None, length}
use Rattle.regex_lite.specs.Anchored.{TellsGroupsAt, TellsGroupsAtOfList, TellsWholeGroups}
use Rattle.regex_lite.specs.Anchored.{TellsWholeGroupsOfList}
use Rattle.regex_lite.specs.Expression.{Expression}
use Rattle.regex_lite.specs.Groups.{Groups}
use Rattle.regex_lite.specs.RegexListSearches.{TellsGroupsOfList}
use Rattle.regex_lite.specs.Searches.{TellsGroups}
use Rattle.regex_lite_c.specs.Anchored.{AreGroupsAt, AreListGroupsAt}
use Rattle.regex_lite_c.specs.Answers.{IsFailure, RefusesText}
use Rattle.regex_lite_c.specs.ListSpans.{AreFirstListGroups}
use Rattle.regex_lite_c.specs.Spans.{AreFirstGroups, AreWritten}
use Rattle.regex_lite_c.specs.Whole.{AreWholeGroups, AreWholeListGroups}
use Rattle.regex_lite_c.specs.declared.answer.TheConstants.{NO, YES, NO_ROOM}
use Rattle.regex_lite_c.specs.declared.list.types.ListGroups.{ListGroups}
use Rattle.regex_lite_c.specs.declared.types.Span.{Span}

-- what a search of these bytes at this offset returns for the groups of a match: 1 if groups were
-- written, with `reported` besides their spans, and 0 if there are none
pub record IsGroupsAnswerOf {T : Type 0} (AreFirst : T → Groups → Type 0) (are_none : Type 0)
    (bytes : List ℕ) (start : ℕ) (old new : List Span) (old_reported reported : T) (answer : ℕ)
    : Type 0 where
  pub found : answer ≡ YES → (groups : Groups) × AreFirst reported groups
      × AreWritten groups.spans old new
  pub no_room : answer ≡ NO_ROOM → (groups : Groups) × AreFirst reported groups
      × (length old < length groups.spans)
  pub none : answer ≡ NO → are_none
  pub same : answer ≢ YES → new ≡ old
  pub same_reported : answer ≢ YES → answer ≢ NO_ROOM → reported ≡ old_reported
  pub refused : RefusesText bytes start answer
  pub one_of : (answer ≤ YES) ⊎ IsFailure answer

-- the groups of the first match of a regex from the offset on, whose number is written
abbrev pub IsGroupsAnswer : Expression → (bytes : List ℕ) → (start : ℕ) → (old new : List Span)
    → (old_count count answer : ℕ) → Type 0
IsGroupsAnswer re bytes start old new old_count count answer =
    IsGroupsAnswerOf (AreFirstGroups re bytes start) (TellsGroups re bytes start None)
    bytes start old new old_count count answer

-- the groups of the first match of several patterns, with the number of the pattern too
abbrev pub IsListGroupsAnswer : List Expression → (bytes : List ℕ) → (start : ℕ)
    → (old new : List Span) → (old_reported reported : ListGroups) → (answer : ℕ) → Type 0
IsListGroupsAnswer list bytes start old new old_reported reported answer =
    IsGroupsAnswerOf (AreFirstListGroups list bytes start)
    (TellsGroupsOfList list bytes start None) bytes start old new old_reported reported answer

-- the groups of the match of a regex that starts at the offset
abbrev pub IsAnchoredGroupsAnswer : Expression → (bytes : List ℕ) → (start : ℕ)
    → (old new : List Span) → (old_count count answer : ℕ) → Type 0
IsAnchoredGroupsAnswer re bytes start old new old_count count answer =
    IsGroupsAnswerOf (AreGroupsAt re bytes start) (TellsGroupsAt re bytes start None)
    bytes start old new old_count count answer

-- the groups of the match of several patterns that starts at the offset
abbrev pub IsAnchoredListGroupsAnswer : List Expression → (bytes : List ℕ) → (start : ℕ)
    → (old new : List Span) → (old_reported reported : ListGroups) → (answer : ℕ) → Type 0
IsAnchoredListGroupsAnswer list bytes start old new old_reported reported answer =
    IsGroupsAnswerOf (AreListGroupsAt list bytes start)
    (TellsGroupsAtOfList list bytes start None) bytes start old new old_reported reported answer

-- the groups of the match of a regex that is the whole text
abbrev pub IsWholeGroupsAnswer : Expression → (bytes : List ℕ) → (old new : List Span)
    → (old_count count answer : ℕ) → Type 0
IsWholeGroupsAnswer re bytes old new old_count count answer =
    IsGroupsAnswerOf (AreWholeGroups re bytes) (TellsWholeGroups re bytes None)
    bytes 0 old new old_count count answer

-- the groups of the match of several patterns that is the whole text
abbrev pub IsWholeListGroupsAnswer : List Expression → (bytes : List ℕ) → (old new : List Span)
    → (old_reported reported : ListGroups) → (answer : ℕ) → Type 0
IsWholeListGroupsAnswer list bytes old new old_reported reported answer =
    IsGroupsAnswerOf (AreWholeListGroups list bytes) (TellsWholeGroupsOfList list bytes None)
    bytes 0 old new old_reported reported answer
