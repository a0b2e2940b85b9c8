use Rattle.regex_lite_syntax.proofs.RangeLemmas.{in_ranges-push}
use Rattle.regex_lite_syntax.proofs.LetterCaseLemmas.{upper_case}
use Rattle.regex_lite_syntax.proofs.class.letters.push_upper_case.Goals as goal

pub returns-in_ok-push : goal.returns-in_ok-push
returns-in_ok-push c d =
    let bounds = c.in-Some.ensures in
    let upper =
    upper_case c.args.range.start c.args.range.end c.in-Some.lower.start c.in-Some.lower.end d
    bounds.0 bounds.1 bounds.2 in
    let start = c.to_ascii_uppercase-start.ensures.value in
    let end = c.to_ascii_uppercase-end.ensures.value in
    rw (c.in_ok-push.ensures.items, in_ranges-push, start, end, upper)
