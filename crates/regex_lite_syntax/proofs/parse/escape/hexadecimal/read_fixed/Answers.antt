use Rattle.regex_lite_syntax.proofs.Common.{◌-◌, [], drop, sym, ◌∙◌, subst, arith, Gap}
use Rattle.regex_lite_syntax.proofs.grammar.LongerGapLemmas.{whole_before, whole_to_end}
use Rattle.regex_lite_syntax.proofs.parse.escape.DigitLemmas.{digit_at, still_digit_at, fixed_after}
use Rattle.regex_lite_syntax.proofs.parse.escape.DigitLemmas.{fixed_before, fixed_scalar}
use Rattle.regex_lite_syntax.proofs.parse.escape.DigitLemmas.{fixed_stuck, on_too_large}
use Rattle.regex_lite_syntax.proofs.parse.escape.DigitLemmas.{no_character}
use Rattle.regex_lite_syntax.proofs.parse.escape.CompletedDigitLemmas.{fixed_short}
use Rattle.regex_lite_syntax.proofs.parse.escape.CompletedDigitLemmas.{fixed_completable}
use Rattle.regex_lite_syntax.proofs.parse.EndLemmas.{end_refused}
use Rattle.regex_lite_syntax.proofs.parse.escape.hexadecimal.read_fixed.Goals as goal

pub returns-in_default-clause-refused : goal.returns-in_default-clause-refused
returns-in_default-clause-refused c more follows (rest, d, f, far) =
    let on = c.loop-read.invariant.back more rest d f in
    end_refused _ _ more c.at_end.ensures follows
    (λ nothing.
    fixed_stuck []
    (whole_to_end more _ _ c.skip_gap-next.ensures.gap c.in_default.ensures nothing) tt
    c.loop-read-test.true on)
    (λ never.
    fixed_short c.args.least (c.args.digits - c.loop-read.read) (omega arith)
    (c.can_reach-reaches.ensures.absent never) on far)

pub returns-in_default-clause-completes : goal.returns-in_default-clause-completes
returns-in_default-clause-completes c short =
    fixed_completable c.args.least (c.args.digits - c.loop-read.read) _ _ (omega arith)
    c.loop-read-test.true
    (subst (λ u. Gap c.args.verbose (drop c.loop-read.end c.args.chars.now) u)
    c.in_default.ensures c.skip_gap-next.ensures.gap.0)
    c.loop-read.invariant.goes_longer
    (c.can_reach-reaches.ensures.reached (sym c.at_end.ensures ∙ short))

pub returns-in_default-hex_value-clause-refused : goal.returns-in_default-hex_value-clause-refused
returns-in_default-hex_value-clause-refused c more follows (rest, d, f, far) =
    fixed_stuck _ (whole_before more _ _ c.skip_gap-next.ensures.gap c.in-Some.ensures.1)
    c.in_default-hex_value.ensures c.loop-read-test.true (c.loop-read.invariant.back more rest d f)

pub returns-then-number-gt-LAST-clause-refused : goal.returns-then-number-gt-LAST-clause-refused
returns-then-number-gt-LAST-clause-refused c more follows (rest, d, f, far) =
    let at = digit_at c.skip_gap-next.ensures.gap c.in-Some.ensures.1 c.in-Some-hex_value.ensures in
    on_too_large
    (fixed_after (still_digit_at more at) c.loop-read-test.true
    (c.loop-read.invariant.back more rest d f)).on
    (omega arith)

pub loop-read-preserved : goal.loop-read-preserved
loop-read-preserved c =
    let at = digit_at c.skip_gap-next.ensures.gap c.in-Some.ensures.1 c.in-Some-hex_value.ensures in
    record {
      inside = (omega arith, omega (arith, c.in-Some.ensures.0));
      small = c.if-number-gt-LAST.false;
      goes = λ rest d f. c.loop-read.invariant.goes rest d (fixed_before at f);
      goes_longer = λ more rest d f.
          c.loop-read.invariant.goes_longer more rest d
          (fixed_before (still_digit_at more at) f);
      back = λ more rest d f.
          fixed_after (still_digit_at more at) c.loop-read-test.true
          (c.loop-read.invariant.back more rest d f);
    }

pub returns-in-None-clause-refused : goal.returns-in-None-clause-refused
returns-in-None-clause-refused c more follows (rest, d, f, far) =
    no_character _ c.in-None.ensures.cases
    (fixed_scalar c.loop-read-test.false (c.loop-read.invariant.back more rest d f))
