use Rattle.regex_lite_syntax.proofs.Common.{◌++◌, drop, refl, ap, ◌∙◌, subst, arith, Number}
use Rattle.regex_lite_syntax.proofs.Common.{Counted, WholeGap}
use Rattle.regex_lite_syntax.proofs.ExitLemmas.{at_exit}
use Rattle.regex_lite_syntax.proofs.grammar.NumberLemmas.{no_ender, nothing_left, other_ender}
use Rattle.regex_lite_syntax.proofs.grammar.CountLemmas.{counted_to, first_number}
use Rattle.regex_lite_syntax.proofs.grammar.CountLemmas.{limit_past, past_min}
use Rattle.regex_lite_syntax.proofs.grammar.LongerNumberLemmas.{of_text}
use Rattle.regex_lite_syntax.proofs.grammar.ResumedCountLemmas.{bounds_follow, number_closed}
use Rattle.regex_lite_syntax.proofs.grammar.ResumedCountLemmas.{brace_follows, limit_follows}
use Rattle.regex_lite_syntax.proofs.parse.IndexLemmas.{left_at_end}
use Rattle.regex_lite_syntax.proofs.parse.counted.read_counted.Goals as goal

pub returns-then-first-chars-clause-refused : goal.returns-then-first-chars-clause-refused
returns-then-first-chars-clause-refused c =
    let xs = c.args.chars.now in
    let t = drop c.args.at xs in
    let none = left_at_end xs c.skip_gap-first.result c.if-first-chars.true in
    let left = subst (λ u. WholeGap c.args.verbose t u) none c.skip_gap-first.ensures.gap in
    λ more follows (rest, least, most, counted).
    let now =
    of_text (λ v. Counted c.args.verbose v rest least most) t more (follows refl) counted in
    nothing_left left (first_number now).1

pub returns-in_err-past_min-clause-refused : goal.returns-in_err-past_min-clause-refused
returns-in_err-past_min-clause-refused c =
    at_exit _ _ c.from_residual.ensures.1 (λ more follows (rest, least, most, counted).
    let number = first_number counted in
    c.in_err-past_min.ensures.refused more follows (number.0, least, number.1, number.2))

pub returns-in_err-end-in-Some-eq44-clause-refused :
    goal.returns-in_err-end-in-Some-eq44-clause-refused
returns-in_err-end-in-Some-eq44-clause-refused c =
    let here = c.in-Some-eq44.ensures.1 in
    at_exit _ _ c.from_residual-in_err-end-in-Some-eq44.ensures.1
    (λ more follows (rest, least, most, counted).
    let past = past_min (λ rest' n. c.in_ok-past_min.ensures.only more rest' n
    (λ none. cc (here, none))) counted in
    let limit = limit_past _ _ _ (ap (λ u. u ++ more) here) c.in-Some-eq44.field-0-test past.1 in
    c.in_err-end-in-Some-eq44.ensures.refused more follows (rest, most, limit.0, limit.1))

pub returns-in-None-clause-refused : goal.returns-in-None-clause-refused
returns-in-None-clause-refused c =
    λ more follows (rest, least, most, counted).
    let past = past_min (λ rest' n. c.in_ok-past_min.ensures.only more rest' n
    (λ none. follows refl)) counted in
    no_ender _ (ap (λ u. u ++ more) c.in-None.ensures ∙ follows refl) past.0

pub returns-then-first-chars-clause-completes : goal.returns-then-first-chars-clause-completes
returns-then-first-chars-clause-completes c =
    let xs = c.args.chars.now in
    let t = drop c.args.at xs in
    let none = left_at_end xs c.skip_gap-first.result c.if-first-chars.true in
    let left = subst (λ u. WholeGap c.args.verbose t u) none c.skip_gap-first.ensures.gap in
    λ short. bounds_follow c.args.verbose t left.0

pub returns-in_err-past_min-clause-completes : goal.returns-in_err-past_min-clause-completes
returns-in_err-past_min-clause-completes c =
    at_exit _ _ c.from_residual.ensures.1
    (λ short. number_closed c.args.verbose _ (c.in_err-past_min.ensures.completes short))

pub returns-in_err-end-in-Some-eq44-clause-completes :
    goal.returns-in_err-end-in-Some-eq44-clause-completes
returns-in_err-end-in-Some-eq44-clause-completes c =
    let comma_at = c.in-Some-eq44 in
    at_exit _ _ c.from_residual-in_err-end-in-Some-eq44.ensures.1
    (λ short. limit_follows c.args.verbose _ _ _ _ _ c.in_ok-past_min.ensures.ok.0
    comma_at.ensures.1 comma_at.field-0-test (c.in_err-end-in-Some-eq44.ensures.completes short))

pub returns-in-None-clause-completes : goal.returns-in-None-clause-completes
returns-in-None-clause-completes c =
    let t = drop c.args.at c.args.chars.now in
    let number = subst (λ u. Number c.args.verbose t u c.in_ok-past_min.field-0.value)
    c.in-None.ensures c.in_ok-past_min.ensures.ok.0 in
    λ short. brace_follows c.args.verbose t _ number

pub returns-in_ok-end-in-Some-eq44-clause-ok : goal.returns-in_ok-end-in-Some-eq44-clause-ok
returns-in_ok-end-in-Some-eq44-clause-ok c =
    let comma_at = c.in-Some-eq44 in
    let limit = c.in_ok-end-in-Some-eq44 in
    counted_to limit.most _ _ _ c.in_ok-past_min.ensures.ok.0 comma_at.ensures.1
    comma_at.field-0-test limit.ensures.ok.0 limit.ensures.ok.1

pub returns-in-Some-clause-refused : goal.returns-in-Some-clause-refused
returns-in-Some-clause-refused c =
    let here = c.in-Some.ensures.1 in
    λ more follows (rest, least, most, counted).
    let past = past_min (λ rest' n. c.in_ok-past_min.ensures.only more rest' n
    (λ none. cc (here, none))) counted in
    other_ender _ _ _ (ap (λ u. u ++ more) here) (λ is. omega (arith, is, c.in-Some.field-0-test))
    (λ is. omega (arith, is, c.in-Some.field-0-test)) past.0
