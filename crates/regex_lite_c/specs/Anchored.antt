-- What anchored searches return, as spans of a caller: their matches start where the search starts.
use Rattle.std.specs.Prelude.{◌≡◌, ℕ, false, List, Option, Some, chars, length}
use Rattle.regex_lite_syntax.specs.Tree.{Tree}
use Rattle.regex_lite_engine.specs.Search.Answer.{Found}
use Rattle.regex_lite.specs.Anchored.{TellsAnswerAt, TellsAnswerAtOfList, TellsGroupsAt}
use Rattle.regex_lite.specs.Anchored.{TellsGroupsAtOfList}
use Rattle.regex_lite.specs.Expression.{Expression}
use Rattle.regex_lite.specs.Groups.{Groups}
use Rattle.regex_lite.specs.Searches.{offsets}
use Rattle.regex_lite_c.specs.ListSpans.{list_span_of}
use Rattle.regex_lite_c.specs.Spans.{span_of}
use Rattle.regex_lite_c.specs.declared.list.types.ListGroups.{ListGroups}
use Rattle.regex_lite_c.specs.declared.list.types.ListSpan.{ListSpan}
use Rattle.regex_lite_c.specs.declared.types.Span.{Span}

-- the value is the span of what is found
abbrev pub IsSpanOf : (haystack : List ℕ) → Tree → Found → (ℕ × ℕ) → Type 0
IsSpanOf haystack tree found span = span ≡ offsets (chars haystack) (found.start, found.end)

-- an anchored search for the pattern at this offset returns the span of its match
abbrev pub TellsSpanAt : Expression → (haystack : List ℕ) → (start : ℕ) → Option (ℕ × ℕ) → Type 0
TellsSpanAt re haystack start reported =
    TellsAnswerAt false (IsSpanOf haystack) re haystack start reported

-- the search finds a match with this span
abbrev pub FindsSpanAt : Expression → (haystack : List ℕ) → (start : ℕ) → Span → Type 0
FindsSpanAt re haystack start span =
    (reported : ℕ × ℕ) × TellsSpanAt re haystack start (Some reported)
    × (span ≡ span_of (Some reported))

-- these are the groups of the match that starts at this offset, `count` of them
abbrev pub AreGroupsAt : Expression → (haystack : List ℕ) → (start : ℕ) → (count : ℕ) → Groups
    → Type 0
AreGroupsAt re haystack start count groups =
    TellsGroupsAt re haystack start (Some groups) × (count ≡ length groups.spans)

-- an anchored search for the patterns at this offset returns the number of the pattern that matches
-- there, and the span of its match
abbrev pub TellsListSpanAt : List Expression → (haystack : List ℕ) → (start : ℕ)
    → Option (ℕ × (ℕ × ℕ)) → Type 0
TellsListSpanAt list haystack start reported =
    TellsAnswerAtOfList false (IsSpanOf haystack) list haystack start reported

-- the search finds a match with this span and this number of its pattern
abbrev pub FindsListSpanAt : List Expression → (haystack : List ℕ) → (start : ℕ) → ListSpan
    → Type 0
FindsListSpanAt list haystack start span =
    (reported : ℕ × (ℕ × ℕ)) × TellsListSpanAt list haystack start (Some reported)
    × (span ≡ list_span_of reported)

-- these are the groups of the match that starts at this offset; their count and the number of their
-- pattern are returned
abbrev pub AreListGroupsAt : List Expression → (haystack : List ℕ) → (start : ℕ) → ListGroups
    → Groups → Type 0
AreListGroupsAt list haystack start reported groups =
    TellsGroupsAtOfList list haystack start (Some (reported.number, groups))
    × (reported.count ≡ length groups.spans)
