use Rattle.regex_lite_syntax.proofs.Common.{◌<◌}
use Rattle.std.proofs.Common.{◌↔◌}
use Rattle.regex_lite_syntax.proofs.hir.DepthLemmas.{depth_from}
use Rattle.regex_lite_syntax.proofs.hir.+deeper.Given as goal

abbrev pub invariant-is_one_deeper_than-loop-tree : goal.invariant-is_one_deeper_than-loop-tree
invariant-is_one_deeper_than-loop-tree l =
    (l.limit < depth_from l.trees 0) ↔ (l.limit < depth_from l.trees l.tree-index)
