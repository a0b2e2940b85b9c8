use Rattle.regex_lite_syntax.proofs.Common.{[], drop, sym, refl, ap, ◌∙◌, subst, arith}
use Rattle.regex_lite_syntax.proofs.Common.{is_hex_digit, Gap}
use Rattle.regex_lite_syntax.proofs.grammar.LongerGapLemmas.{whole_before, whole_to_end}
use Rattle.regex_lite_syntax.proofs.parse.escape.DigitLemmas.{digit_at, still_digit_at}
use Rattle.regex_lite_syntax.proofs.parse.escape.DigitLemmas.{braced_after, braced_before}
use Rattle.regex_lite_syntax.proofs.parse.escape.DigitLemmas.{braced_scalar, braced_stuck}
use Rattle.regex_lite_syntax.proofs.parse.escape.DigitLemmas.{on_too_large, no_character}
use Rattle.regex_lite_syntax.proofs.parse.escape.CompletedDigitLemmas.{braced_short}
use Rattle.regex_lite_syntax.proofs.parse.escape.CompletedDigitLemmas.{braced_completable}
use Rattle.regex_lite_syntax.proofs.parse.EndLemmas.{end_refused}
use Rattle.regex_lite_syntax.proofs.parse.escape.hexadecimal.read_braced.Goals as goal

pub returns-in_default-clause-refused : goal.returns-in_default-clause-refused
returns-in_default-clause-refused c more follows (rest, d, b, far) =
    let on = c.loop-c.invariant.back more rest d b in
    end_refused _ _ more c.at_end.ensures follows
    (λ nothing.
    braced_stuck []
    (whole_to_end more _ _ c.skip_gap-next.ensures.gap c.in_default.ensures nothing) tt
    (λ begins some. begins) on)
    (λ never. braced_short c.args.least (c.can_reach_at_all-reaches.ensures.absent never) on far)

pub returns-in_default-clause-completes : goal.returns-in_default-clause-completes
returns-in_default-clause-completes c short =
    braced_completable c.args.least _ _ (λ some. omega (arith, c.loop-c.invariant.begun some))
    (subst (λ u. Gap c.args.verbose (drop c.loop-c.end c.args.chars.now) u)
    c.in_default.ensures c.skip_gap-next.ensures.gap.0)
    c.loop-c.invariant.goes_longer
    (c.can_reach_at_all-reaches.ensures.reached (sym c.at_end.ensures ∙ short))

pub returns-then-end-at-clause-refused : goal.returns-then-end-at-clause-refused
returns-then-end-at-clause-refused c more follows (rest, d, b, far) =
    braced_stuck _ (whole_before more _ _ c.skip_gap-next.ensures.gap c.in-Some.ensures.1)
    (ap is_hex_digit c.if-c-eq125.true) (λ begins some. omega (arith, some, c.if-end-at.true))
    (c.loop-c.invariant.back more rest d b)

pub returns-in-None-clause-refused : goal.returns-in-None-clause-refused
returns-in-None-clause-refused c more follows (rest, d, b, far) =
    no_character _ c.in-None.ensures.cases
    (braced_scalar _ _ _ (whole_before more _ _ c.skip_gap-next.ensures.gap c.in-Some.ensures.1)
    refl c.if-c-eq125.true (c.loop-c.invariant.back more rest d b))

pub returns-in_default-hex_value-clause-refused : goal.returns-in_default-hex_value-clause-refused
returns-in_default-hex_value-clause-refused c more follows (rest, d, b, far) =
    braced_stuck _ (whole_before more _ _ c.skip_gap-next.ensures.gap c.in-Some.ensures.1)
    c.in_default-hex_value.ensures (λ begins some. c.if-c-eq125.false begins)
    (c.loop-c.invariant.back more rest d b)

pub returns-then-number-gt-LAST-clause-refused : goal.returns-then-number-gt-LAST-clause-refused
returns-then-number-gt-LAST-clause-refused c more follows (rest, d, b, far) =
    let at = digit_at c.skip_gap-next.ensures.gap c.in-Some.ensures.1 c.in-Some-hex_value.ensures in
    on_too_large
    (braced_after {read' = 1} (still_digit_at more at) (omega arith)
    (c.loop-c.invariant.back more rest d b)).on
    (omega arith)

pub loop-c-preserved : goal.loop-c-preserved
loop-c-preserved c =
    let at = digit_at c.skip_gap-next.ensures.gap c.in-Some.ensures.1 c.in-Some-hex_value.ensures in
    record {
      inside = (omega arith, omega (arith, c.in-Some.ensures.0));
      small = c.if-number-gt-LAST.false;
      begun = λ some. omega arith;
      goes = λ rest d b. c.loop-c.invariant.goes rest d (braced_before at b);
      goes_longer = λ more rest d b.
          c.loop-c.invariant.goes_longer more rest d (braced_before (still_digit_at more at) b);
      back = λ more rest d b.
          braced_after (still_digit_at more at) (omega arith)
          (c.loop-c.invariant.back more rest d b);
    }
