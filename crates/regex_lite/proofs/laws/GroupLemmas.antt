-- The groups that a search returns lie inside the match, and enough of them took part.
use Rattle.regex_lite.proofs.Common.{◌≡◌, ℕ, ◌≤◌, length, IfSome, Some, None, Option, option_map}
use Rattle.regex_lite.proofs.Common.{chars, unwrap_or, sym, ap, ◌∙◌, subst, arith, filter_map}
use Rattle.regex_lite.proofs.Common.{captures_len, static_captures_len, search_start, IsPatternTree}
use Rattle.regex_lite.proofs.Common.{text_at, span_at, whole_span, texts_from, offsets, spans_from}
use Rattle.regex_lite.specs.Laws.{EnoughGroupsTakePart, GroupsLieInside, LiesInside}
use Rattle.regex_lite.proofs.string.FoundLemmas.{enough_texts, group_0, groups_lie_inside}
use Rattle.regex_lite_engine.proofs.laws.answer.AnswerAtLemmas.{way_of_found}

pub groups_inside_match : GroupsLieInside
groups_inside_match re bytes start groups utf8 (tree, given, (found, is, are)) k =
    let of_pattern : IsPatternTree tree = (re.flags, _, given) in
    let s = search_start bytes start in
    let h = chars bytes in
    let count = captures_len tree in
    let way = way_of_found tree h s found is in
    let whole : whole_span groups ≡ offsets h (found.start, found.end) =
    ap (λ spans. unwrap_or (span_at spans 0) (0, 0)) are.spans
    ∙ ap (λ own. unwrap_or own (0, 0)) (group_0 h tree found count of_pattern way (omega arith)) in
    subst (λ spans. IfSome (span_at spans k) (LiesInside bytes (whole_span groups))) (sym are.spans)
    (subst (λ span. IfSome (span_at (spans_from h found.marks 0 count) k) (LiesInside bytes span))
    (sym whole) (groups_lie_inside bytes utf8 tree of_pattern found way count k))

pub enough_groups : EnoughGroupsTakePart
enough_groups re bytes start groups utf8 (tree, given, (found, is, are)) =
    each groups.static_captures_len are.static_captures
  where
    each : (known : Option ℕ) → known ≡ static_captures_len tree
        → IfSome known (λ n. n ≤ length (texts_from groups 0))
    each None e = tt
    each (Some n) e = subst (λ own. n ≤ length (filter_map (option_map (text_at own)) groups.spans))
        (sym are.haystack)
        (subst (λ all. n ≤ length (filter_map (option_map (text_at bytes)) all)) (sym are.spans)
        (enough_texts bytes utf8 tree (re.flags, _, given) found
        (way_of_found tree (chars bytes) (search_start bytes start) found is) n (sym e)))
