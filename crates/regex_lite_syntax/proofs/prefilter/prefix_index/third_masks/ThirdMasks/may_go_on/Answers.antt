use Rattle.regex_lite_syntax.proofs.Common.{◌≡◌, ◌%◌, ◌==◌, slice_get, Some, sym, ap, ◌∙◌, subst}
use Rattle.regex_lite_syntax.proofs.Common.{slice_get-get_or}
use Rattle.std.proofs.lemmas.Nat.Bits.{shr_and_one}
use Rattle.regex_lite_syntax.specs.Prefilter.ThirdMasks.{in_some_mask}
use Rattle.regex_lite_syntax.proofs.prefilter.prefix_index.third_masks.ThirdMasks.may_go_on.Goals as
    goal

pub returns-in-Some : goal.returns-in-Some
returns-in-Some c =
    let mask = c.in-Some.mask.now in
    let masks = c.args.self.now.masks.items in
    let found = c.in-Some.ensures.lookup in
    let there : slice_get c.deref.result.now c.args.number ≡ Some mask =
    slice_get-get_or c.deref.result.now c.args.number mask found.3.0
    ∙ ap Some (sym found.1) in
    ap (λ bit. bit == 1) (shr_and_one mask (c.args.third % 32))
    ∙ sym (ap (λ o. in_some_mask o c.args.third)
    (subst (λ list. slice_get list c.args.number ≡ Some mask) c.deref.ensures.value there))
