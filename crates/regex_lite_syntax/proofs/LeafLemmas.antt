-- The tree of a node, by the variant that the node is, and by what is read out of it.
use Rattle.regex_lite_syntax.proofs.Common.{◌≡◌, ℕ, Bool, List, Option, option_map, sym, ap, ◌∙◌}
use Rattle.regex_lite_syntax.proofs.Common.{Tree, class, look, repetition, concat, alternation}
use Rattle.regex_lite_syntax.proofs.Common.{text_of_name, tree_of, Hir, Look, ClassRange}
use Rattle.regex_lite_syntax.specs.Tree.{empty, character, capture}
use Rattle.std.proofs.Common.{Box, Global, Vec}
use Rattle.std.specs.declared.rc.Rc.{Rc}
use Rattle.std.specs.declared.rc.RcStr.{RcStr}
use Rattle.regex_lite_syntax.specs.Tree.Views.{node_tree}
use Rattle.regex_lite_syntax.specs.declared.hir.Hir.{Hir-F, fold-roll-Hir}
use Rattle.regex_lite_syntax.specs.declared.hir.Hir.TheVariants as hir
use Rattle.regex_lite_syntax.proofs.TreeLemmas.{tree_of-Repetition, tree_of-Concat}
use Rattle.regex_lite_syntax.proofs.TreeLemmas.{tree_of-Alternation, trees_of}

pub tree_is-Empty : {node : Hir} → node ≡ hir.Empty → tree_of node ≡ empty
tree_is-Empty is =
    ap tree_of (is ∙ sym hir.rolls-Empty) ∙ fold-roll-Hir Tree node_tree Hir-F.Empty

pub tree_is-Char : {node : Hir} {c : ℕ} → node ≡ hir.Char c → tree_of node ≡ character c
tree_is-Char {c = c} is =
    ap tree_of (is ∙ sym (hir.rolls-Char c)) ∙ fold-roll-Hir Tree node_tree (Hir-F.Char c)

pub tree_is-Class : {node : Hir} {set : Rc (List ClassRange) Global} {ranges : List ClassRange}
    → node ≡ hir.Class set → ranges ≡ set.value → tree_of node ≡ class ranges
tree_is-Class {set = set} is read =
    ap tree_of (is ∙ sym (hir.rolls-Class set))
    ∙ fold-roll-Hir Tree node_tree (Hir-F.Class set) ∙ ap class (sym read)

pub tree_is-Look : {node : Hir} {test : Look} → node ≡ hir.Look test → tree_of node ≡ look test
tree_is-Look {test = test} is =
    ap tree_of (is ∙ sym (hir.rolls-Look test)) ∙ fold-roll-Hir Tree node_tree (Hir-F.Look test)

pub tree_is-Capture : {node : Hir} {index : ℕ} {name : Option (RcStr Global)}
    {body : Box Hir Global} {inner : Hir} → node ≡ hir.Capture index name body
    → inner ≡ body.value
    → tree_of node ≡ capture index (option_map text_of_name name) (tree_of inner)
tree_is-Capture {index = index} {name = name} {body = body} is read =
    ap tree_of (is ∙ sym (hir.rolls-Capture index name body))
    ∙ fold-roll-Hir Tree node_tree (Hir-F.Capture index name body)
    ∙ ap (λ part. capture index (option_map text_of_name name) (tree_of part)) (sym read)

pub tree_is-Repetition : {node : Hir} {least : ℕ} {most : Option ℕ} {greedy : Bool}
    {body : Box Hir Global} {inner : Hir} → node ≡ hir.Repetition least most greedy body
    → inner ≡ body.value → tree_of node ≡ repetition least most greedy (tree_of inner)
tree_is-Repetition {least = least} {most = most} {greedy = greedy} {body = body} is read =
    ap tree_of is ∙ tree_of-Repetition least most greedy body
    ∙ ap (λ part. repetition least most greedy (tree_of part)) (sym read)

pub tree_is-Concat : {node : Hir} (parts : Vec Hir Global) {read : List Hir}
    → node ≡ hir.Concat parts → read ≡ parts.items → tree_of node ≡ concat (trees_of read)
tree_is-Concat parts is same =
    ap tree_of is ∙ tree_of-Concat parts ∙ ap (λ hirs. concat (trees_of hirs)) (sym same)

pub tree_is-Alternation : {node : Hir} (branches : Vec Hir Global) {read : List Hir}
    → node ≡ hir.Alternation branches → read ≡ branches.items
    → tree_of node ≡ alternation (trees_of read)
tree_is-Alternation branches is same =
    ap tree_of is ∙ tree_of-Alternation branches
    ∙ ap (λ hirs. alternation (trees_of hirs)) (sym same)
