-- The searches for one match, and how their results are written.
use Rattle.std.specs.Prelude.{ℕ, List, Option, None, MatchOption, length}
use Rattle.regex_lite.specs.Anchored.{TellsGroupsAt, TellsGroupsAtOfList, TellsWholeGroups}
use Rattle.regex_lite.specs.Anchored.{TellsWholeGroupsOfList}
use Rattle.regex_lite.specs.Expression.{Expression}
use Rattle.regex_lite.specs.Groups.{Groups}
use Rattle.regex_lite.specs.ListedPattern.{OfPattern}
use Rattle.regex_lite.specs.MatchOffsets.{MatchesAt, MatchesSpan, SomeMatchesAt}
use Rattle.regex_lite.specs.MatchOffsets.{SomeMatchesWhole}
use Rattle.regex_lite.specs.RegexListSearches.{AnyMatches, TellsGroupsOfList}
use Rattle.regex_lite.specs.Searches.{MatchesFrom, TellsGroups}
use Rattle.regex_lite_c.specs.Anchored.{AreGroupsAt, AreListGroupsAt, FindsListSpanAt, FindsSpanAt}
use Rattle.regex_lite_c.specs.Anchored.{TellsListSpanAt, TellsSpanAt}
use Rattle.regex_lite_c.specs.ListSpans.{AreFirstListGroups, FindsListSpan, TellsListSpan}
use Rattle.regex_lite_c.specs.Spans.{AreFirstGroups, FindsSpan, TellsSpan}
use Rattle.regex_lite_c.specs.Whole.{AreWholeGroups, AreWholeListGroups, FindsWholeListSpan}
use Rattle.regex_lite_c.specs.Whole.{FindsWholeSpan, TellsWholeListSpan, TellsWholeSpan}
use Rattle.regex_lite_c.specs.declared.anchored.SoughtAt.{SoughtAt}
use Rattle.regex_lite_c.specs.declared.list.listed.Listed.{Listed}
use Rattle.regex_lite_c.specs.declared.list.types.ListGroups.{ListGroups}
use Rattle.regex_lite_c.specs.declared.list.types.ListSpan.{ListSpan}
use Rattle.regex_lite_c.specs.declared.types.Span.{Span}
use Rattle.regex_lite_c.specs.declared.whole.Whole.{Whole}

-- What a search from an offset finds: whether there is a match, the span of the match if there is
-- one, and its groups with what is written besides their spans
pub record SearchKind (S X T : Type 0) : Type 1 where
  pub Matches : S → (haystack : List ℕ) → (start : ℕ) → Type 0
  pub Finds : S → (haystack : List ℕ) → (start : ℕ) → X → Type 0
  pub FindsNone : S → (haystack : List ℕ) → (start : ℕ) → Type 0
  pub AreFirst : S → (haystack : List ℕ) → (start : ℕ) → T → Groups → Type 0
  pub AreNone : S → (haystack : List ℕ) → (start : ℕ) → Type 0

-- the search for a regex, from the offset on
abbrev pub regex_search : SearchKind Expression Span ℕ
regex_search = record {
  Matches = MatchesFrom;
  Finds = FindsSpan;
  FindsNone = λ re haystack start. TellsSpan re haystack start None;
  AreFirst = AreFirstGroups;
  AreNone = λ re haystack start. TellsGroups re haystack start None;
}

-- the search for several patterns, from the offset on
abbrev pub patterns_search : SearchKind (List Expression) ListSpan ListGroups
patterns_search = record {
  Matches = AnyMatches;
  Finds = FindsListSpan;
  FindsNone = λ list haystack start. TellsListSpan list haystack start None;
  AreFirst = AreFirstListGroups;
  AreNone = λ list haystack start. TellsGroupsOfList list haystack start None;
}

-- the anchored search for a regex
abbrev pub anchored_regex_search : SearchKind (SoughtAt Expression) Span ℕ
anchored_regex_search = record {
  Matches = λ own haystack start. MatchesAt own.sought.now haystack start;
  Finds = λ own haystack start span. FindsSpanAt own.sought.now haystack start span;
  FindsNone = λ own haystack start. TellsSpanAt own.sought.now haystack start None;
  AreFirst = λ own haystack start count groups.
      AreGroupsAt own.sought.now haystack start count groups;
  AreNone = λ own haystack start. TellsGroupsAt own.sought.now haystack start None;
}

-- the anchored search for several patterns
abbrev pub anchored_patterns_search : SearchKind (SoughtAt (List Expression)) ListSpan ListGroups
anchored_patterns_search = record {
  Matches = λ own haystack start. SomeMatchesAt own.sought.now haystack start;
  Finds = λ own haystack start span. FindsListSpanAt own.sought.now haystack start span;
  FindsNone = λ own haystack start. TellsListSpanAt own.sought.now haystack start None;
  AreFirst = λ own haystack start reported groups.
      AreListGroupsAt own.sought.now haystack start reported groups;
  AreNone = λ own haystack start. TellsGroupsAtOfList own.sought.now haystack start None;
}

-- the search for a whole match of a regex, whatever the offset
abbrev pub whole_regex_search : SearchKind (Whole Expression) Span ℕ
whole_regex_search = record {
  Matches = λ own haystack start. MatchesSpan own.sought.now haystack (0, length haystack);
  Finds = λ own haystack start span. FindsWholeSpan own.sought.now haystack span;
  FindsNone = λ own haystack start. TellsWholeSpan own.sought.now haystack None;
  AreFirst = λ own haystack start count groups.
      AreWholeGroups own.sought.now haystack count groups;
  AreNone = λ own haystack start. TellsWholeGroups own.sought.now haystack None;
}

-- the search for a whole match of several patterns, whatever the offset
abbrev pub whole_patterns_search : SearchKind (Whole (List Expression)) ListSpan ListGroups
whole_patterns_search = record {
  Matches = λ own haystack start. SomeMatchesWhole own.sought.now haystack;
  Finds = λ own haystack start span. FindsWholeListSpan own.sought.now haystack span;
  FindsNone = λ own haystack start. TellsWholeListSpan own.sought.now haystack None;
  AreFirst = λ own haystack start reported groups.
      AreWholeListGroups own.sought.now haystack reported groups;
  AreNone = λ own haystack start. TellsWholeGroupsOfList own.sought.now haystack None;
}

-- the list has a pattern with this number, and the pattern has this property
abbrev pub OfListed : Listed → (Expression → Type 0) → Type 0
OfListed one Says = OfPattern one.list.now one.number Says

-- the search for one pattern of a list, from the offset on
abbrev pub listed_search : SearchKind Listed Span ℕ
listed_search = record {
  Matches = λ one haystack start. OfListed one (λ re. MatchesFrom re haystack start);
  Finds = λ one haystack start span. OfListed one (λ re. FindsSpan re haystack start span);
  FindsNone = λ one haystack start. OfListed one (λ re. TellsSpan re haystack start None);
  AreFirst = λ one haystack start count groups.
      OfListed one (λ re. AreFirstGroups re haystack start count groups);
  AreNone = λ one haystack start. OfListed one (λ re. TellsGroups re haystack start None);
}

module _ {S X T : Type 0} (kind : SearchKind S X T) where
  -- the search from this offset finds this match, or none
  abbrev pub IsFirst : S → (haystack : List ℕ) → (start : ℕ) → Option X → Type 0
  IsFirst sought haystack start span =
      MatchOption span (kind.FindsNone sought haystack start) (kind.Finds sought haystack start)

  -- the search from this offset finds these groups, with what is written of them, or none
  abbrev pub AreFirstReported : S → (haystack : List ℕ) → (start : ℕ) → Option (T × Groups) → Type 0
  AreFirstReported sought haystack start own =
      MatchOption own (kind.AreNone sought haystack start)
      (λ own. kind.AreFirst sought haystack start own.0 own.1)
