use Rattle.regex_lite_engine.proofs.Common.{◌≡◌, ◌+◌, ◌-◌, drop, sym, ap, ◌∙◌, subst, arith, Tree}
use Rattle.regex_lite_engine.proofs.Common.{concat, alternation, Trees, none, more, tree_of}
use Rattle.regex_lite_syntax.proofs.LeafLemmas.{tree_is-Class, tree_is-Repetition, tree_is-Concat}
use Rattle.regex_lite_syntax.proofs.LeafLemmas.{tree_is-Alternation}
use Rattle.std.proofs.lemmas.List.{drop_all}
use Rattle.regex_lite_engine.specs.Nfa.Saturation.{AreCountsOf}
use Rattle.regex_lite_syntax.proofs.TreeLemmas.{trees_of, trees_more}
use Rattle.std.proofs.lemmas.Grind.{common_steps}
use Rattle.regex_lite_engine.proofs.count.Counts.+count.Goals as goal

pub of-returns-in-Repetition : goal.of-returns-in-Repetition
of-returns-in-Repetition t c =
    let r = c.in-Repetition in
    subst (λ (tree : Tree). AreCountsOf tree c.repeated.result)
    (sym (tree_is-Repetition r.is c.deref-in-Repetition.ensures))
    (c.repeated.ensures (tree_of c.deref-in-Repetition.result.now) r.greedy c.of.ensures)

pub of_branches-loop-i-init : goal.of_branches-loop-i-init
of_branches-loop-i-init t c =
    let hirs = c.args.branches.now in
    let last = c.in-Some.last in
    let branch = c.index-branches-last.result in
    let one =
    trees_more hirs last branch (omega (arith, c.in-Some.ensures)) c.index-branches-last.is in
    let later = ap trees_of (drop_all (last + 1) hirs (omega (arith, c.in-Some.ensures))) in (
      tree_of branch,
      none,
      one ∙ ap (λ rest. more (tree_of branch) rest) later,
      c.alone-counts.ensures (tree_of branch) c.of.ensures,
    )

pub of_branches-loop-i-preserved : goal.of_branches-loop-i-preserved
of_branches-loop-i-preserved t c =
    let hirs = c.args.branches.now in
    let before = c.loop-i.i - 1 in
    let branch = c.index-branches-i.result in
    let known = c.loop-i.invariant in
    let one = trees_more hirs before branch (omega arith) c.index-branches-i.is in
    let same : before + 1 ≡ c.loop-i.i = omega (arith, c.loop-i-test.true) in
    let later = ap (λ i. trees_of (drop i hirs)) same ∙ known.2 in (
      tree_of branch,
      more known.0 known.1,
      one ∙ ap (λ rest. more (tree_of branch) rest) later,
      c.or-counts.ensures (tree_of branch) known.0 known.1 c.of-in-loop-i.ensures known.3,
    )

pub of_branches-returns : goal.of_branches-returns
of_branches-returns t c =
    let hirs = c.args.branches.now in
    let known = c.loop-i.invariant in
    let first : c.loop-i.i ≡ 0 = omega (arith, c.loop-i-test.false) in
    let whole = ap (λ i. trees_of (drop i hirs)) (sym first) ∙ known.2 in
    subst (λ (branches : Trees). AreCountsOf (alternation branches) c.loop-i.counts)
    (sym whole) known.3

pub of-returns-in-Class : goal.of-returns-in-Class
of-returns-in-Class t c =
    subst (λ (tree : Tree). AreCountsOf tree c.of_class.result)
    (sym (tree_is-Class c.in-Class.is c.deref.ensures)) c.of_class.ensures

pub of-returns-in-Concat : goal.of-returns-in-Concat
of-returns-in-Concat t c =
    subst (λ (tree : Tree). AreCountsOf tree c.of_parts.result)
    (sym (tree_is-Concat _ c.in-Concat.is c.deref-in-Concat.ensures.value)) c.of_parts.ensures

pub of-returns-in-Alternation : goal.of-returns-in-Alternation
of-returns-in-Alternation t c =
    subst (λ (tree : Tree). AreCountsOf tree c.of_branches.result)
    (sym (tree_is-Alternation _ c.in-Alternation.is c.deref-in-Alternation.ensures.value))
    c.of_branches.ensures

pub of_parts-loop-i-preserved : goal.of_parts-loop-i-preserved
of_parts-loop-i-preserved t c =
    let hirs = c.args.parts.now in
    let before = c.loop-i.i - 1 in
    let part = c.index-parts-i.result in
    let one = trees_more hirs before part (omega arith) c.index-parts-i.is in
    let same : before + 1 ≡ c.loop-i.i = omega (arith, c.loop-i-test.true) in
    let later = ap (λ i. more (tree_of part) (trees_of (drop i hirs))) same in
    subst (λ (parts : Trees). AreCountsOf (concat parts) c.then-counts.result) (sym (one ∙ later))
    (c.then-counts.ensures (tree_of part) (trees_of (drop c.loop-i.i hirs)) c.of.ensures
    c.loop-i.invariant)

-- The goals from here on need no lemma of their own. They have answers because the prover would
-- try other calls first, which takes long
pub of_branches-returns-in_default : goal.of_branches-returns-in_default
of_branches-returns-in_default t c = grind (arith, common_steps)

pub of_parts-loop-i-init : goal.of_parts-loop-i-init
of_parts-loop-i-init t c = grind (arith, common_steps)
