-- What is searched for, a regex or several patterns, and how the results are written.
use Rattle.std.specs.Prelude.{◌≡◌, ℕ, Bool, false, true, List, Option, Some, MatchOption}
use Rattle.std.specs.Prelude.{IsSome, chars, length}
use Rattle.regex_lite_syntax.specs.Text.{Text}
use Rattle.regex_lite_engine.specs.Search.Answer.{Found}
use Rattle.regex_lite.specs.Ahead.{AheadOf, EndsAhead, PassesAnswer}
use Rattle.regex_lite.specs.Expression.{Expression}
use Rattle.regex_lite.specs.Groups.{Groups, group_span}
use Rattle.regex_lite.specs.Items.{AreGroupsFound}
use Rattle.regex_lite.specs.ListAhead.{AreGroupsFoundInList}
use Rattle.regex_lite.specs.MatchList.{IsAnswerOf, IsAnswerOfPatterns}
use Rattle.regex_lite.specs.Pieces.{found_span}
use Rattle.regex_lite_c.specs.Costs.{IsCostOfListSearch, IsCostOfSearch}
use Rattle.regex_lite_c.specs.ListSpans.{list_span_of}
use Rattle.regex_lite_c.specs.Spans.{span_of}
use Rattle.regex_lite_c.specs.declared.list.types.ListGroups.{ListGroups}
use Rattle.regex_lite_c.specs.declared.list.types.ListSpan.{ListSpan}
use Rattle.regex_lite_c.specs.declared.types.Cost.{Cost}
use Rattle.regex_lite_c.specs.declared.types.Span.{Span}

-- A search gives answers, each with a match. An answer is written as a value from which the end of
-- the match can be read. A search from an offset on has a cost. Besides their spans, something is
-- written of the groups of a match, and a walk over all matches may write it for each
pub record Kind (S X T : Type 0) : Type 1 where
  pub Answer : Type 0
  pub Reported : Type 0
  pub found_of : Answer → Found
  pub IsAnswerTo : S → Text → (s : ℕ) → Option Answer → Type 0
  pub tell : (haystack : List ℕ) → Answer → Reported
  pub stands_for : Reported → X
  pub end_of : X → ℕ
  pub IsCost : S → (haystack : List ℕ) → (start : ℕ) → Cost → Type 0
  pub AreGroups : S → (haystack : List ℕ) → Answer → Groups → Type 0
  pub groups_reported : Answer → (count : ℕ) → T
  pub is_reported : Bool

-- the span of a match, as it is written
abbrev pub reported_of : (haystack : List ℕ) → Found → Option (ℕ × ℕ)
reported_of haystack found = Some (found_span (chars haystack) found)

-- a regex as what is searched for; the answers are its matches
abbrev pub of_regex : Kind Expression Span ℕ
of_regex = record {
  Answer = Found;
  Reported = Option (ℕ × ℕ);
  found_of = λ own. own;
  IsAnswerTo = IsAnswerOf;
  tell = reported_of;
  stands_for = span_of;
  end_of = λ span. span.end;
  IsCost = IsCostOfSearch;
  AreGroups = AreGroupsFound;
  groups_reported = λ _ count. count;
  is_reported = false;
}

-- the number of a pattern and the span of its match, as they are written
abbrev pub reported_of_answer : (haystack : List ℕ) → ℕ × Found → ℕ × (ℕ × ℕ)
reported_of_answer haystack answer = (answer.0, found_span (chars haystack) answer.1)

-- several patterns as what is searched for; each answer has the number of its pattern
abbrev pub of_patterns : Kind (List Expression) ListSpan ListGroups
of_patterns = record {
  Answer = ℕ × Found;
  Reported = ℕ × (ℕ × ℕ);
  found_of = λ own. own.1;
  IsAnswerTo = IsAnswerOfPatterns;
  tell = reported_of_answer;
  stands_for = list_span_of;
  end_of = λ span. span.end;
  IsCost = IsCostOfListSearch;
  AreGroups = λ list haystack answer. AreGroupsFoundInList list haystack answer.0 answer.1;
  groups_reported = λ answer count. record { number = answer.0; count = count };
  is_reported = true;
}

module _ {S X T : Type 0} (kind : Kind S X T) where
  -- the next of the matches ahead was returned, as it is written; or there was none, and none comes
  -- from then on
  abbrev pub GivesWritten : (old : AheadOf S) → Option X → (new : AheadOf S) → Type 0
  GivesWritten old item new =
      MatchOption item (EndsAhead kind.found_of kind.IsAnswerTo old new)
      (λ span. (answer : kind.Answer)
      × PassesAnswer kind.found_of kind.IsAnswerTo old answer new
      × (span ≡ kind.stands_for (kind.tell old.haystack answer)))

  -- the groups of the next of the matches ahead were returned, with what is written of them; or
  -- there was none
  abbrev pub GivesGroups : (old : AheadOf S) → Option (T × Groups) → (new : AheadOf S) → Type 0
  GivesGroups old item new =
      MatchOption item (EndsAhead kind.found_of kind.IsAnswerTo old new)
      (λ own. (answer : kind.Answer) × kind.AreGroups old.sought old.haystack answer own.1
      × (own.0 ≡ kind.groups_reported answer (length own.1.spans)) × IsSome (group_span own.1 0)
      × PassesAnswer kind.found_of kind.IsAnswerTo old answer new)
