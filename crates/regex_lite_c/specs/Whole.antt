-- What searches for whole matches return, as spans of a caller.
use Rattle.std.specs.Prelude.{◌≡◌, ℕ, true, List, Option, Some, length}
use Rattle.regex_lite.specs.Anchored.{TellsAnswerAt, TellsAnswerAtOfList, TellsWholeGroups}
use Rattle.regex_lite.specs.Anchored.{TellsWholeGroupsOfList}
use Rattle.regex_lite.specs.Expression.{Expression}
use Rattle.regex_lite.specs.Groups.{Groups}
use Rattle.regex_lite_c.specs.Anchored.{IsSpanOf}
use Rattle.regex_lite_c.specs.ListSpans.{list_span_of}
use Rattle.regex_lite_c.specs.Spans.{span_of}
use Rattle.regex_lite_c.specs.declared.list.types.ListGroups.{ListGroups}
use Rattle.regex_lite_c.specs.declared.list.types.ListSpan.{ListSpan}
use Rattle.regex_lite_c.specs.declared.types.Span.{Span}

-- a search for a match of the whole haystack returns its span
abbrev pub TellsWholeSpan : Expression → (haystack : List ℕ) → Option (ℕ × ℕ) → Type 0
TellsWholeSpan re haystack reported = TellsAnswerAt true (IsSpanOf haystack) re haystack 0 reported

-- the search finds a match with this span
abbrev pub FindsWholeSpan : Expression → (haystack : List ℕ) → Span → Type 0
FindsWholeSpan re haystack span =
    (reported : ℕ × ℕ) × TellsWholeSpan re haystack (Some reported)
    × (span ≡ span_of (Some reported))

-- these are the groups of the match of the whole haystack, `count` of them
abbrev pub AreWholeGroups : Expression → (haystack : List ℕ) → (count : ℕ) → Groups → Type 0
AreWholeGroups re haystack count groups =
    TellsWholeGroups re haystack (Some groups) × (count ≡ length groups.spans)

-- a search for a match of the whole haystack returns the number of the pattern that has one, and
-- its span
abbrev pub TellsWholeListSpan : List Expression → (haystack : List ℕ) → Option (ℕ × (ℕ × ℕ))
    → Type 0
TellsWholeListSpan list haystack reported =
    TellsAnswerAtOfList true (IsSpanOf haystack) list haystack 0 reported

-- the search finds a match with this span and this number of its pattern
abbrev pub FindsWholeListSpan : List Expression → (haystack : List ℕ) → ListSpan → Type 0
FindsWholeListSpan list haystack span =
    (reported : ℕ × (ℕ × ℕ)) × TellsWholeListSpan list haystack (Some reported)
    × (span ≡ list_span_of reported)

-- these are the groups of the match of the whole haystack; their count and the number of their
-- pattern are returned
abbrev pub AreWholeListGroups : List Expression → (haystack : List ℕ) → ListGroups → Groups
    → Type 0
AreWholeListGroups list haystack reported groups =
    TellsWholeGroupsOfList list haystack (Some (reported.number, groups))
    × (reported.count ≡ length groups.spans)
