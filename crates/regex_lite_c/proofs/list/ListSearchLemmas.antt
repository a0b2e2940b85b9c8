-- Matches of several patterns that a search returns.
use Rattle.regex_lite_c.proofs.Common.{◌≡◌, ℕ, List, Some, Expression}
use Rattle.regex_lite.specs.declared.string.matches.Match.{Match}
use Rattle.regex_lite.specs.MatchViews.{span_of_match}
use Rattle.regex_lite.specs.RegexListSearches.{TellsMatchOfList}
use Rattle.regex_lite_c.specs.ListSpans.{FindsListSpan, list_span_of}
use Rattle.regex_lite_c.specs.declared.list.types.ListSpan.{ListSpan}

-- the search finds a match that is the answer, with this span
pub finds_list_span : (list : List Expression) (haystack : List ℕ) (start number : ℕ)
    (found : Match) (span : ListSpan) → TellsMatchOfList list haystack start (Some (number, found))
    → span ≡ list_span_of (number, span_of_match found) → FindsListSpan list haystack start span
finds_list_span list haystack start number found span (trees, are, (own, answer, is_match)) is =
    ((number, span_of_match found), (trees, are, (own, answer, is_match.span)), is)
