use Rattle.regex_lite_syntax.proofs.Common.{◌≡◌, map, length}
use Rattle.regex_lite_syntax.specs.Prefilter.ThirdMasks.{AreMasksOf}
use Rattle.regex_lite_syntax.proofs.prefilter.prefix_index.third_masks.ThirdMasks.of.Given as goal

abbrev pub invariant-loop-hir : goal.invariant-loop-hir
invariant-loop-hir g l = record {
  all : length l.masks.items ≡ l.hir-index;
  each : AreMasksOf (map g.T.AsHir.tree l.hirs) l.masks.items;
}
