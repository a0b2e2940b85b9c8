-- The code's values as values of the definitions.
use Rattle.std.specs.Prelude.{List, map, option_map, chars}
use Rattle.std.specs.Rc.{rc_str_bytes}
use Rattle.std.specs.declared.alloc.Global.{Global}
use Rattle.std.specs.declared.rc.RcStr.{RcStr}
use Rattle.regex_lite_syntax.specs.Text.{Text}
use Rattle.regex_lite_syntax.specs.Tree.{Tree, trees, empty, character, class, look}
use Rattle.regex_lite_syntax.specs.Tree.{repetition, capture, concat, alternation}
use Rattle.regex_lite_syntax.specs.declared.hir.Hir.{Hir}
use Rattle.regex_lite_syntax.specs.declared.hir.Hir.TheOpen.{Hir-F}
use Rattle.regex_lite_syntax.specs.declared.hir.Hir.TheFolds.{fold-Hir}

-- the characters of a name
abbrev pub text_of_name : RcStr Global → Text
text_of_name name = chars (rc_str_bytes name)

-- the characters of each of the names
abbrev pub names_of : List (RcStr Global) → List Text
names_of names = map text_of_name names

-- the tree of one node, given the trees of its children
abbrev pub node_tree : Hir-F Tree → Tree
node_tree Hir-F.Empty = empty
node_tree (Hir-F.Char c) = character c
node_tree (Hir-F.Class set) = class set.value
node_tree (Hir-F.Look test) = look test
node_tree (Hir-F.Repetition least most greedy body) = repetition least most greedy body.value
node_tree (Hir-F.Capture index name body) =
    capture index (option_map text_of_name name) body.value
node_tree (Hir-F.Concat parts) = concat (trees parts.items)
node_tree (Hir-F.Alternation branches) = alternation (trees branches.items)

-- the tree that the code's tree stands for
abbrev pub tree_of : Hir → Tree
tree_of = fold-Hir Tree node_tree
