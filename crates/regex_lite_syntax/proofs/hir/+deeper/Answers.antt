use Rattle.regex_lite_syntax.proofs.Common.{◌≡◌, ℕ, ◌<◌, max, false, refl, arith, both_ways, depth}
use Rattle.regex_lite_syntax.proofs.Common.{tree_of}
use Rattle.regex_lite_syntax.proofs.hir.DepthLemmas.{depth_from, depth_more, depth_last}
use Rattle.regex_lite_syntax.proofs.hir.+deeper.Goals as goal

pub is_one_deeper_than-returns-then-is_deeper_than :
    goal.is_one_deeper_than-returns-then-is_deeper_than
unfolding depth_from
is_one_deeper_than-returns-then-is_deeper_than t c =
    let more = depth_more c.args.trees.now c.loop-tree.tree-index c.tree-item.result
    c.loop-tree-test.true c.tree-item.is in
    let deep = c.is_deeper_than.ensures.0 c.if-is_deeper_than.true in
    (λ _. c.loop-tree.invariant.1 (omega (arith, more, deep)), λ _. refl)

pub is_one_deeper_than-loop-tree-preserved : goal.is_one_deeper_than-loop-tree-preserved
is_one_deeper_than-loop-tree-preserved t c =
    let xs = c.args.trees.now in
    let i = c.loop-tree.tree-index in
    let more = depth_more xs i c.tree-item.result c.loop-tree-test.true c.tree-item.is in
    let shallow : c.args.limit < depth (tree_of c.tree-item.result) → ⊥ =
    λ deep. both_ways _ c.if-is_deeper_than.false (c.is_deeper_than.ensures.1 deep) in (
      λ deep. by_cases (c.loop-tree.invariant.0 deep) more shallow,
      λ deep. c.loop-tree.invariant.1 (omega (arith, more, deep)),
    )
  where
    by_cases : {limit here rest whole : ℕ} → limit < whole → whole ≡ max here rest
        → (limit < here → ⊥) → limit < rest
    by_cases deep e shallow = omega (arith, deep, e, shallow)

pub is_one_deeper_than-returns : goal.is_one_deeper_than-returns
unfolding depth_from
is_one_deeper_than-returns t c =
    let last = depth_last c.args.trees.now c.loop-tree.tree-index c.loop-tree-test.false in (
      λ no. absurd (both_ways false refl no),
      λ deep. let rest = c.loop-tree.invariant.0 deep in absurd (omega (arith, rest, last)),
    )
