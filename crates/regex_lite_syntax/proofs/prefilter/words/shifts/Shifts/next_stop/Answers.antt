use Rattle.regex_lite_syntax.proofs.Common.{ℕ, ◌+◌, ◌≤◌, MatchOption, NoneStands}
use Rattle.regex_lite_syntax.proofs.Common.{arith, length, subst, sym}
use Rattle.regex_lite_syntax.specs.Prefilter.Words.{AnyStandsAt}
use Rattle.regex_lite_syntax.proofs.prefilter.words.ShiftLemmas.{none_on}
use Rattle.regex_lite_syntax.proofs.prefilter.words.NextLemmas.{none_joined}
use Rattle.regex_lite_syntax.proofs.prefilter.words.shifts.Shifts.next_stop.Goals as goal

pub returns-in_err-at-clause-stop : goal.returns-in_err-at-clause-stop
returns-in_err-at-clause-stop c = λ words are.
    let bytes = c.args.bytes.now in
    let from = c.args.from in
    subst (λ reported. MatchOption reported ((at : ℕ) → from ≤ at → ¬ AnyStandsAt words bytes at)
    (λ stop. (from ≤ stop) × NoneStands words bytes from stop
    × (stop + c.args.self.now.reach ≤ length bytes))) (sym c.from_residual.ensures)
    (none_on words bytes from c.spans.at (c.spans.invariant.none words are)
    (c.in_err-at.ensures.entered words are))

pub returns-then-at-span-clause-stop : goal.returns-then-at-span-clause-stop
returns-then-at-span-clause-stop c = λ words are.
    let bytes = c.args.bytes.now in
    let from = c.args.from in
    let v = c.spans.invariant in
    let (low, none, below) = c.in_ok-at.ensures.entered words are in (
      omega (arith, v.order, low, c.shift-at.ensures.low),
      none_joined words bytes from c.in_ok-at.at c.shift-at.result
          (none_joined words bytes from c.spans.at c.in_ok-at.at (v.none words are) none)
          (c.shift-at.ensures.none words are),
      omega (arith, c.if-at-span.true, c.in_ok-at.ensures.span, are.two),
    )

pub spans-preserved : goal.spans-preserved
spans-preserved c =
    let words = c.requires.shifts.0 in
    let bytes = c.args.bytes.now in
    let from = c.args.from in
    let v = c.spans.invariant in
    let (low, _, below) = c.in_ok-at.ensures.entered words c.requires.shifts.1 in
    record {
      order = omega (arith, v.order, low, c.shift-at.ensures.low);
      inside = c.shift-at.ensures.high;
      room = c.in_ok-at.ensures.span;
      none = λ words are.
          let (low, none, below) = c.in_ok-at.ensures.entered words are in
          none_joined words bytes from c.in_ok-at.at c.shift-at.result
          (none_joined words bytes from c.spans.at c.in_ok-at.at (v.none words are) none)
          (c.shift-at.ensures.none words are);
    }

pub spans-smaller : goal.spans-smaller
spans-smaller c =
    let (low, none, below) = c.in_ok-at.ensures.entered c.requires.shifts.0 c.requires.shifts.1 in
    omega (arith, low, below, c.if-at-span.false, c.shift-at.ensures.high)
