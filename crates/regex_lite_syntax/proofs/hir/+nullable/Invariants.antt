use Rattle.regex_lite_syntax.proofs.Common.{◌≡◌, map, drop, tree_of}
use Rattle.regex_lite_syntax.specs.Tree.{trees as trees_of}
use Rattle.regex_lite_syntax.specs.Tree.Properties.{all_nullable, any_nullable}
use Rattle.regex_lite_syntax.proofs.hir.+nullable.Given as goal

abbrev pub invariant-properties::are_all_nullable-loop-tree :
    goal.invariant-properties::are_all_nullable-loop-tree
invariant-properties::are_all_nullable-loop-tree l =
    all_nullable (trees_of (map tree_of l.trees))
    ≡ all_nullable (trees_of (map tree_of (drop l.tree-index l.trees)))

abbrev pub invariant-properties::is_any_nullable-loop-tree :
    goal.invariant-properties::is_any_nullable-loop-tree
invariant-properties::is_any_nullable-loop-tree l =
    any_nullable (trees_of (map tree_of l.trees))
    ≡ any_nullable (trees_of (map tree_of (drop l.tree-index l.trees)))
