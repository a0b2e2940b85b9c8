use Rattle.regex_lite_syntax.proofs.Common.{◌≡◌, ℕ, ◌<◌, map, length, drop, option_or, name_at}
use Rattle.regex_lite_syntax.proofs.Common.{group_name_in, tree_of}
use Rattle.regex_lite_syntax.specs.Tree.{trees as trees_of}
use Rattle.regex_lite_syntax.specs.Tree.Properties.{greatest_index_in}
use Rattle.regex_lite_syntax.proofs.hir.names.+add.Given as goal

abbrev pub invariant-add_all_names-loop-tree : goal.invariant-add_all_names-loop-tree
invariant-add_all_names-loop-tree l =
    let left = trees_of (map tree_of (drop l.tree-index l.trees)) in
    (greatest_index_in left < length l.names)
    × ((k : ℕ) → option_or (name_at l.names k) (group_name_in left k)
    ≡ option_or (name_at l.initial.names k) (group_name_in (trees_of (map tree_of l.trees)) k))
