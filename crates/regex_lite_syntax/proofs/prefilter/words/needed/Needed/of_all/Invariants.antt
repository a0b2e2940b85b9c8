use Rattle.regex_lite_syntax.proofs.Common.{map, take}
use Rattle.regex_lite_syntax.specs.Prefilter.Needed.{AreNeededByEach}
use Rattle.regex_lite_syntax.specs.Prefilter.NeededWalk.{as_needed}
use Rattle.regex_lite_syntax.proofs.prefilter.words.needed.Needed.of_all.Given as goal

abbrev pub invariant-loop-hir : goal.invariant-loop-hir
invariant-loop-hir g l =
    AreNeededByEach (map g.T.AsHir.tree (take l.hir-index l.hirs))
    (as_needed l.all.words l.all.lead)
