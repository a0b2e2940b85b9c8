use Rattle.regex_lite_syntax.proofs.Common.{◌≡◌, ℕ, List, [], ◌∷◌, ◌++◌, map, length, slice_get}
use Rattle.regex_lite_syntax.proofs.Common.{Some, sym, ap, ◌∙◌, subst, arith, length-append}
use Rattle.regex_lite_syntax.specs.Prefilter.ThirdMasks.{AreMasksOf, IsThirdOfTree}
use Rattle.regex_lite_syntax.proofs.LookupLemmas.{mapped_there, reported_more}
use Rattle.regex_lite_syntax.proofs.prefilter.prefix_index.third_masks.ThirdMasks.of.Goals as goal

pub loop-hir-preserved : goal.loop-hir-preserved
loop-hir-preserved g c =
    let hirs = c.args.hirs.now in
    let trees = map g.T.AsHir.tree hirs in
    let hir = c.hir-item.result in
    let before = c.loop-hir.masks.items in
    let mask = c.third_of.result in
    let next : slice_get trees (length before) ≡ Some (g.T.AsHir.tree hir)
    = ap (slice_get trees) {x = length before} c.loop-hir.invariant.all
    ∙ mapped_there g.T.AsHir.tree hirs c.loop-hir.hir-index hir c.loop-hir-test.true
    c.hir-item.is in
    let longer = c.push.new.self.items in
    let pushed = c.in_ok-push.ensures.items in
    record {
      all = omega (
        arith,
        ap length {x = longer} {y = before ++ mask ∷ []} pushed,
        length-append before (mask ∷ []),
        c.loop-hir.invariant.all,
      );
      each = subst (λ masks. AreMasksOf trees masks) {x = before ++ mask ∷ []} {y = longer}
          (sym {A = List ℕ} {a = longer} {b = before ++ mask ∷ []} pushed)
          (reported_more IsThirdOfTree trees before (g.T.AsHir.tree hir) mask next
          (rw (← c.as_hir.ensures) c.third_of.ensures)
          c.loop-hir.invariant.each);
    }
