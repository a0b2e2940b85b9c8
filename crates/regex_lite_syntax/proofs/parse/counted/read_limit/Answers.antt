use Rattle.regex_lite_syntax.proofs.Common.{◌∷◌, ◌++◌, drop, sym, refl, ap, ◌∙◌, subst, inr, arith}
use Rattle.regex_lite_syntax.proofs.Common.{both_ways, Limit, WholeGap, IsNotBelow, the}
use Rattle.regex_lite_syntax.proofs.ExitLemmas.{at_exit}
use Rattle.regex_lite_syntax.proofs.ListLemmas.{same_head}
use Rattle.regex_lite_syntax.proofs.grammar.NumberLemmas.{no_ender, nothing_left}
use Rattle.regex_lite_syntax.proofs.grammar.CountLemmas.{limit_is_number}
use Rattle.regex_lite_syntax.proofs.grammar.LongerNumberLemmas.{of_text, longer_limit_is_number}
use Rattle.regex_lite_syntax.proofs.grammar.ResumedCountLemmas.{NumberTo, unlimited, greatest_limit}
use Rattle.regex_lite_syntax.proofs.grammar.ResumedCountLemmas.{limit_reached, never_reached}
use Rattle.regex_lite_syntax.proofs.parse.EndLemmas.{end_refused}
use Rattle.regex_lite_syntax.proofs.parse.counted.read_limit.Goals as goal

pub returns-in-None-clause-refused : goal.returns-in-None-clause-refused
returns-in-None-clause-refused c =
    let t = drop c.args.at c.args.chars.now in
    let whole = c.skip_gap-first.ensures.gap in
    let left = subst (λ u. WholeGap c.args.verbose t u) c.in-None.ensures whole in
    λ more follows (rest, most, limit, order).
    let now = of_text (λ v. Limit c.args.verbose v rest most) t more (follows refl) limit in
    nothing_left left (limit_is_number _ left (λ begins. begins) now).2

pub returns-in_err-past_digits-clause-refused : goal.returns-in_err-past_digits-clause-refused
returns-in_err-past_digits-clause-refused c =
    at_exit _ _ c.from_residual.ensures.1 (λ more follows (rest, most, limit, order).
    let number = longer_limit_is_number more _ _ _ _ c.skip_gap-first.ensures.gap
    c.in-Some.ensures.1 c.in-Some.field-0-test.1 limit in
    c.in_err-past_digits.ensures.refused more follows
    (the "}" ∷ rest, number.0, number.2, inr refl))

pub returns-in-None-char_at-clause-refused : goal.returns-in-None-char_at-clause-refused
returns-in-None-char_at-clause-refused c =
    let number = c.in_ok-past_digits.field-0 in
    let xs = c.args.chars.now in
    let t = drop c.args.at xs in
    let past = drop number.past_digits xs in
    let end = c.in-None-char_at.ensures in
    let here = subst (λ u. NumberTo c.args.verbose t u past number.value) end
    c.in_ok-past_digits.ensures.ok in
    λ more follows (rest, most, limit, order).
    let longer = longer_limit_is_number more _ _ _ _ c.skip_gap-first.ensures.gap
    c.in-Some.ensures.1 c.in-Some.field-0-test.1 limit in
    end_refused _ _ more c.at_end.ensures follows
    (λ nothing.
    let same = c.in_ok-past_digits.ensures.only more (the "}" ∷ rest) longer.0 (λ _. nothing)
    longer.2 (inr refl) in
    no_ender _ (same.0 ∙ ap (λ u. u ++ more) end ∙ nothing) (inr refl))
    (λ never.
    never_reached c.args.verbose c.args.least t past number.value here
    (λ can. both_ways c.can_become-reaches.result never (c.can_become-reaches.ensures.1 can))
    more rest longer.0 longer.2 (subst (λ m. IsNotBelow c.args.least m) longer.1 order))

pub returns-in-Some-char_at-clause-refused : goal.returns-in-Some-char_at-clause-refused
returns-in-Some-char_at-clause-refused c =
    λ more follows (rest, most, limit, order).
    let number = longer_limit_is_number more _ _ _ _ c.skip_gap-first.ensures.gap
    c.in-Some.ensures.1 c.in-Some.field-0-test.1 limit in
    let here = c.in-Some-char_at.ensures.1 in
    let same = c.in_ok-past_digits.ensures.only more (the "}" ∷ rest) number.0
    (λ none. cc (here, none)) number.2 (inr refl) in
    c.in-Some-char_at.field-0-test.1 (sym (same_head (same.0 ∙ ap (λ u. u ++ more) here)))

pub returns-in-None-clause-completes : goal.returns-in-None-clause-completes
returns-in-None-clause-completes c =
    let t = drop c.args.at c.args.chars.now in
    let whole = c.skip_gap-first.ensures.gap in
    let left = subst (λ u. WholeGap c.args.verbose t u) c.in-None.ensures whole in
    λ short. unlimited c.args.verbose c.args.least t left.0

pub returns-in_err-past_digits-clause-completes :
    goal.returns-in_err-past_digits-clause-completes
returns-in_err-past_digits-clause-completes c =
    at_exit _ _ c.from_residual.ensures.1
    (λ short. greatest_limit c.args.verbose c.args.least _ (omega arith)
    (c.in_err-past_digits.ensures.completes short))

pub returns-in-None-char_at-clause-completes : goal.returns-in-None-char_at-clause-completes
returns-in-None-char_at-clause-completes c =
    let number = c.in_ok-past_digits.field-0 in
    let xs = c.args.chars.now in
    let t = drop c.args.at xs in
    let past = drop number.past_digits xs in
    let here = subst (λ u. NumberTo c.args.verbose t u past number.value) c.in-None-char_at.ensures
    c.in_ok-past_digits.ensures.ok in
    λ short. limit_reached c.args.verbose c.args.least t past number.value here
    (c.can_become-reaches.ensures.0 (sym c.at_end.ensures ∙ short))

pub returns-in-Some-eq125-char_at-clause-refused :
    goal.returns-in-Some-eq125-char_at-clause-refused
returns-in-Some-eq125-char_at-clause-refused c =
    λ more follows (rest, most, limit, order).
    let number = longer_limit_is_number more _ _ _ _ c.skip_gap-first.ensures.gap
    c.in-Some.ensures.1 c.in-Some.field-0-test.1 limit in
    let same = c.in_ok-past_digits.ensures.only more (the "}" ∷ rest) number.0
    (λ none. cc (c.in-Some-eq125-char_at.ensures.1, none)) number.2 (inr refl) in
    let above = subst (λ m. IsNotBelow c.args.least m) number.1 order in
    omega (arith, above, same.1, c.if-most-least.true)
