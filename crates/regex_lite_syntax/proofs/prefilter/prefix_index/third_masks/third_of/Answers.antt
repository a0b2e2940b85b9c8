use Rattle.regex_lite_syntax.proofs.Common.{◌≡◌, ℕ, suc, Some, sym, ap, ◌∙◌, subst, arith, after}
use Rattle.regex_lite_syntax.proofs.Common.{drop, Tree, concat, Trees, more, tree_of}
use Rattle.regex_lite_syntax.specs.Prefilter.ThirdMasks.{BeginsInMask, ReadsOne, IsThirdOfTree}
use Rattle.regex_lite_syntax.proofs.TreeLemmas.{trees_of, trees_more}
use Rattle.regex_lite_syntax.proofs.LeafLemmas.{tree_is-Concat}
use Rattle.regex_lite_syntax.proofs.prefilter.prefix_index.ThirdLemmas.{all_in_mask}
use Rattle.regex_lite_syntax.proofs.prefilter.prefix_index.third_masks.third_of.Goals as goal

pub returns-in_default-as_slice : goal.returns-in_default-as_slice
returns-in_default-as_slice c = λ h i j code m third. all_in_mask code

pub returns-else-reads_one : goal.returns-else-reads_one
returns-else-reads_one c = λ h i j code m third. all_in_mask code

pub returns-in_default : goal.returns-in_default
returns-in_default c = λ h i j code m third. all_in_mask code

-- what comes third where two parts before it read one character each
third_begins : (a b d : Tree) (rest : Trees) (mask : ℕ) → ReadsOne a → ReadsOne b
    → BeginsInMask d mask → IsThirdOfTree (concat (more a (more b (more d rest)))) mask
third_begins a b d rest mask one two third h i j c (k, first, (l, second, (m, there, left))) is =
    third h l m c there (subst (λ p. after h p ≡ Some c)
    (sym (two h k l second ∙ ap suc (one h i k first))) is)

pub returns-then-reads_one-2 : goal.returns-then-reads_one-2
returns-then-reads_one-2 c =
    let parts = c.as_slice.result.now in
    let long = c.in-len3-up.len_at_least in
    let first = c.first-item.result in
    let second = c.second-item.result in
    let third = c.third-item.result in
    let same = tree_is-Concat _ c.in-Concat.is c.as_slice.ensures.value in
    let three = trees_more parts 0 first (omega (arith, long)) c.first-item.is
    ∙ ap (λ left. more (tree_of first) left) (trees_more parts 1 second (omega (arith, long))
    c.second-item.is ∙ ap (λ left. more (tree_of second) left) (trees_more parts 2 third
    (omega (arith, long)) c.third-item.is)) in
    subst (λ (tree : Tree). IsThirdOfTree tree c.first_of.result) (sym (same ∙ ap concat three))
    (third_begins (tree_of first) (tree_of second) (tree_of third) (trees_of (drop 3 parts))
    c.first_of.result (c.reads_one.ensures c.if-reads_one.true)
    (c.reads_one-then-reads_one.ensures c.if-reads_one-2.true) c.first_of.ensures)
