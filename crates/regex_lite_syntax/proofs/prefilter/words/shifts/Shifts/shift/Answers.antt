use Rattle.regex_lite_syntax.proofs.Common.{◌+◌, ◌-◌, slice_index, ap, ◌∙◌}
use Rattle.regex_lite_syntax.proofs.Common.{arith}
use Rattle.regex_lite_syntax.proofs.prefilter.words.ShiftLemmas.{none_before}
use Rattle.regex_lite_syntax.proofs.prefilter.words.NextLemmas.{none_joined}
use Rattle.regex_lite_syntax.proofs.prefilter.words.shifts.Shifts.shift.Goals as goal

pub shifts-preserved : goal.shifts-preserved
shifts-preserved c =
    let self = c.args.self.now in
    let bytes = c.args.bytes.now in
    let shifts = c.deref-shifts.result.now in
    let v = c.shifts.invariant in
    let at = c.shifts.at in
    let is = ap (λ xs. slice_index xs c.key.result) c.deref-shifts.ensures.value in
    let some = c.requires.shifts.1 in
    let less = some.none_passed.below c.key.result in
    let two = some.two in
    record {
      order = omega (arith, v.order);
      inside = omega (arith, is, less);
      none = λ words are.
          none_joined words bytes c.args.from at (at + slice_index shifts c.key.result)
          (v.none words are)
          (none_before words bytes self.reach self.shifts.items at (at + self.reach - 2)
          (at + self.reach - 1) (slice_index shifts c.key.result) are.none_passed
          (omega arith) (omega arith)
          (is ∙ ap (slice_index self.shifts.items) c.key.ensures.key));
    }
