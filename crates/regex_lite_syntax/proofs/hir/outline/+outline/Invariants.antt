use Rattle.regex_lite_syntax.proofs.Common.{◌≡◌, ◌+◌, ◌^◌, ◌≤◌, ◌++◌, drop}
use Rattle.regex_lite_syntax.proofs.TreeLemmas.{trees_of}
use Rattle.regex_lite_syntax.specs.Limits.{depth_of_list}
use Rattle.regex_lite_syntax.specs.Tree.Outline.{outlines_at}
use Rattle.regex_lite_syntax.proofs.hir.outline.+outline.Given as goal

abbrev pub invariant-add_all_parts-loop-tree : goal.invariant-add_all_parts-loop-tree
invariant-add_all_parts-loop-tree l =
    let left = trees_of (drop l.tree-index l.trees) in
    (l.depth + depth_of_list left ≤ 2 ^ 32)
    × (l.parts.items ++ outlines_at left l.depth
    ≡ l.initial.parts.items ++ outlines_at (trees_of l.trees) l.depth)
