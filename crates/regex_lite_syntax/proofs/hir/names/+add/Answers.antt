use Rattle.regex_lite_syntax.proofs.Common.{◌≡◌, ◌⊎◌, List, map, Option, Result, Global, sym, ap}
use Rattle.regex_lite_syntax.proofs.Common.{◌∙◌, subst, inl, inr, RcStr, Tree, AddsNames}
use Rattle.regex_lite_syntax.proofs.Common.{group_name, group_name_in, tree_of, Hir}
use Rattle.std.proofs.Common.{IfOk, Vec}
use Rattle.std.specs.declared.alloc.AllocError.{AllocError}
use Rattle.regex_lite_syntax.specs.Tree.{trees as trees_of}
use Rattle.regex_lite_syntax.specs.declared.hir.Hir.TheVariants.{Concat, Alternation}
use Rattle.regex_lite_syntax.proofs.hir.names.+add.Goals as goal
use Rattle.regex_lite_syntax.proofs.TreeLemmas.{tree_of-Concat, tree_of-Alternation}

-- the names of a list of trees are those of the node that has them
of_node : (result : Result (Unit {0}) AllocError) (before after : List (Option (RcStr Global)))
    (hir : Hir) (parts : Vec Hir Global) → (hir ≡ Concat parts) ⊎ (hir ≡ Alternation parts)
    → IfOk result (λ _. AddsNames (group_name_in (trees_of (map tree_of parts.items))) before after)
    → IfOk result (λ _. AddsNames (group_name (tree_of hir)) before after)
of_node result before after hir parts (inl is) added =
    subst (λ (tree : Tree). IfOk result (λ _. AddsNames (group_name tree) before after))
    (sym (ap tree_of is ∙ tree_of-Concat parts)) added
of_node result before after hir parts (inr is) added =
    subst (λ (tree : Tree). IfOk result (λ _. AddsNames (group_name tree) before after))
    (sym (ap tree_of is ∙ tree_of-Alternation parts)) added

pub add_names-returns-in-Concat : goal.add_names-returns-in-Concat
add_names-returns-in-Concat t c =
    let names = c.args.names.now in
    let done = c.add_all_names in
    of_node done.result names done.new.names c.args.hir.now c.in-Concat.parts c.in-Concat.is
    (subst (λ (parts : List Hir). IfOk done.result
    (λ _. AddsNames (group_name_in (trees_of (map tree_of parts))) names done.new.names))
    c.deref-in-Concat.ensures.value done.ensures)
