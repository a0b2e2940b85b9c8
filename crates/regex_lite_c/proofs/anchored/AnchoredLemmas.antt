-- Matches that an anchored search returns, and one for a whole match.
use Rattle.std.proofs.Common.{Bool}
use Rattle.regex_lite_c.proofs.Common.{◌≡◌, ℕ, List, Some, Expression, span_of, Span}
use Rattle.regex_lite.specs.Anchored.{IsReportedOfNumbered, TellsAnswerAt, TellsAnswerAtOfList}
use Rattle.regex_lite.specs.Anchored.{TellsMatchAt, TellsMatchAtOfList, TellsWholeMatch}
use Rattle.regex_lite.specs.Anchored.{TellsWholeMatchOfList}
use Rattle.regex_lite.specs.declared.string.matches.Match.{Match}
use Rattle.regex_lite.specs.MatchViews.{span_of_match}
use Rattle.regex_lite.specs.Searches.{IsMatchOf}
use Rattle.regex_lite_c.specs.Anchored.{FindsListSpanAt, FindsSpanAt, IsSpanOf}
use Rattle.regex_lite_c.specs.ListSpans.{list_span_of}
use Rattle.regex_lite_c.specs.Whole.{FindsWholeListSpan, FindsWholeSpan}
use Rattle.regex_lite_c.specs.declared.list.types.ListSpan.{ListSpan}

-- with the match its span is reported
tells_span : (whole : Bool) (re : Expression) (haystack : List ℕ) (start : ℕ) (found : Match)
    → TellsAnswerAt whole (λ tree. IsMatchOf haystack) re haystack start (Some found)
    → TellsAnswerAt whole (IsSpanOf haystack) re haystack start (Some (span_of_match found))
tells_span whole re haystack start found (tree, are, (own, answer, is_match)) =
    (tree, are, (own, answer, is_match.span))

-- the same for several patterns
tells_list_span : (whole : Bool) (list : List Expression) (haystack : List ℕ) (start number : ℕ)
    (found : Match)
    → TellsAnswerAtOfList whole (λ tree. IsMatchOf haystack) list haystack start
    (Some (number, found))
    → TellsAnswerAtOfList whole (IsSpanOf haystack) list haystack start
    (Some (number, span_of_match found))
tells_list_span whole list haystack start number found (trees, are, (own, answer, reported)) =
    let at : IsReportedOfNumbered (IsSpanOf haystack) trees own (number, span_of_match found) =
    record {
      number = reported.number;
      tree = reported.tree;
      numbered = reported.numbered;
      value = reported.value.span;
    } in
    (trees, are, (own, answer, at))

-- the search finds a match that is the answer, with this span
pub finds_span_at : (re : Expression) (haystack : List ℕ) (start : ℕ) (found : Match)
    (span : Span) → TellsMatchAt re haystack start (Some found)
    → span ≡ span_of (Some (span_of_match found)) → FindsSpanAt re haystack start span
finds_span_at re haystack start found span reported is =
    (span_of_match found, tells_span _ re haystack start found reported, is)

pub finds_whole_span : (re : Expression) (haystack : List ℕ) (found : Match) (span : Span)
    → TellsWholeMatch re haystack (Some found)
    → span ≡ span_of (Some (span_of_match found)) → FindsWholeSpan re haystack span
finds_whole_span re haystack found span reported is =
    (span_of_match found, tells_span _ re haystack 0 found reported, is)

-- the same for several patterns
pub finds_list_span_at : (list : List Expression) (haystack : List ℕ) (start number : ℕ)
    (found : Match) (span : ListSpan)
    → TellsMatchAtOfList list haystack start (Some (number, found))
    → span ≡ list_span_of (number, span_of_match found)
    → FindsListSpanAt list haystack start span
finds_list_span_at list haystack start number found span reported is =
    ((number, span_of_match found), tells_list_span _ list haystack start number found reported, is)

pub finds_whole_list_span : (list : List Expression) (haystack : List ℕ) (number : ℕ)
    (found : Match) (span : ListSpan)
    → TellsWholeMatchOfList list haystack (Some (number, found))
    → span ≡ list_span_of (number, span_of_match found)
    → FindsWholeListSpan list haystack span
finds_whole_list_span list haystack number found span reported is =
    ((number, span_of_match found), tells_list_span _ list haystack 0 number found reported, is)
