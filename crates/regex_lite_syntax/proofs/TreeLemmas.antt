-- The equations of `tree_of`, and the trees of a list from some index on.
use Rattle.regex_lite_syntax.proofs.Common.{◌≡◌, ℕ, zero, suc, ◌+◌, ◌<◌, Bool, List, ◌∷◌, map}
use Rattle.regex_lite_syntax.proofs.Common.{length, get_or, drop, Some, Option, Global, sym, ap}
use Rattle.regex_lite_syntax.proofs.Common.{◌∙◌, drop_more, Tree, repetition, concat, alternation}
use Rattle.regex_lite_syntax.proofs.Common.{Trees, more, trees, repeated, tree_of, Hir}
use Rattle.std.proofs.Common.{Vec, Box}
use Rattle.regex_lite_syntax.specs.Tree.Views.{node_tree}
use Rattle.regex_lite_syntax.specs.declared.hir.Hir.{Hir-F, fold-roll-Hir}
use Rattle.regex_lite_syntax.specs.declared.hir.Hir.TheVariants.{Repetition, rolls-Repetition}
use Rattle.regex_lite_syntax.specs.declared.hir.Hir.TheVariants.{Concat, rolls-Concat, Alternation}
use Rattle.regex_lite_syntax.specs.declared.hir.Hir.TheVariants.{rolls-Alternation}
use Rattle.regex_lite_syntax.specs.Tree.{empty}

pub tree_of-Repetition : (least : ℕ) (most : Option ℕ) (greedy : Bool) (body : Box Hir Global)
    → tree_of (Repetition least most greedy body)
    ≡ repetition least most greedy (tree_of body.value)
tree_of-Repetition least most greedy body =
    ap tree_of (sym (rolls-Repetition least most greedy body))
    ∙ fold-roll-Hir Tree node_tree (Hir-F.Repetition least most greedy body)

pub tree_of-Concat : (parts : Vec Hir Global)
    → tree_of (Concat parts) ≡ concat (trees (map tree_of parts.items))
tree_of-Concat parts =
    ap tree_of (sym (rolls-Concat parts)) ∙ fold-roll-Hir Tree node_tree (Hir-F.Concat parts)

pub tree_of-Alternation : (branches : Vec Hir Global)
    → tree_of (Alternation branches) ≡ alternation (trees (map tree_of branches.items))
tree_of-Alternation branches =
    ap tree_of (sym (rolls-Alternation branches))
    ∙ fold-roll-Hir Tree node_tree (Hir-F.Alternation branches)

-- the trees that these stand for
abbrev pub trees_of : List Hir → Trees
trees_of hirs = trees (map tree_of hirs)

pub trees_more : (hirs : List Hir) (i : ℕ) (hir : Hir) → i < length hirs → hir ≡ get_or hirs i hir
    → trees_of (drop i hirs) ≡ more (tree_of hir) (trees_of (drop (i + 1) hirs))
trees_more hirs i hir inside is =
    ap trees_of (drop_more hirs i hir inside ∙ ap (λ first. first ∷ drop (i + 1) hirs) (sym is))

-- what holds of a repetition, of the empty tree and of an item holds of the item repeated
pub repeated_is : (P : Tree → Type 0) (least : ℕ) (most : Option ℕ) (greedy : Bool) (item : Tree)
    → P (repetition least most greedy item) → P empty → P item
    → P (repeated least most greedy item)
repeated_is P zero (Some zero) greedy item whole none one = none
repeated_is P (suc zero) (Some (suc zero)) greedy item whole none one = one
repeated_is P least most greedy item whole none one = whole
