-- How deep the trees of a list are, from some index on.
use Rattle.regex_lite_syntax.proofs.Common.{◌≡◌, ℕ, ◌+◌, ◌<◌, ◌≤◌, max, List, ◌∷◌, map, length}
use Rattle.regex_lite_syntax.proofs.Common.{get_or, drop, sym, ap, ◌∙◌, drop_all, drop_more, depth}
use Rattle.regex_lite_syntax.proofs.Common.{trees, tree_of, Hir}
use Rattle.regex_lite_syntax.specs.Limits.{depth_of_list}

unfoldable pub depth_from : List Hir → ℕ → ℕ
depth_from parts i = depth_of_list (trees (map tree_of (drop i parts)))

pub depth_more : (parts : List Hir) (i : ℕ) (part : Hir) → i < length parts
    → part ≡ get_or parts i part
    → depth_from parts i ≡ max (depth (tree_of part)) (depth_from parts (i + 1))
unfolding depth_from
depth_more parts i part inside is =
    let here = drop_more parts i part inside ∙ ap (λ x. x ∷ drop (i + 1) parts) (sym is) in
    ap (λ rest. depth_of_list (trees (map tree_of rest))) here

pub depth_last : (parts : List Hir) (i : ℕ) → length parts ≤ i → depth_from parts i ≡ 0
unfolding depth_from
depth_last parts i over =
    ap (λ rest. depth_of_list (trees (map tree_of rest))) (drop_all i parts over)
