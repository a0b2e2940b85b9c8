use Rattle.regex_lite_syntax.proofs.Common.{◌+◌, ◌∙◌, ap, arith, drop, false, map, subst}
use Rattle.regex_lite_syntax.proofs.Common.{sym, take, trees}
use Rattle.std.proofs.lemmas.List.{map-append, take-append-drop}
use Rattle.regex_lite_syntax.proofs.Common.{drop_all, tree_of, Trees}
use Rattle.regex_lite_syntax.specs.Prefilter.WordWalk.{GrowsBy}
use Rattle.regex_lite_syntax.proofs.TreeLemmas.{trees_more, trees_of}
use Rattle.regex_lite_syntax.proofs.prefilter.words.WordWalkLemmas.{all_branches, begun}
use Rattle.regex_lite_syntax.proofs.prefilter.words.WordWalkLemmas.{first_branch}
use Rattle.regex_lite_syntax.proofs.prefilter.words.WordWalkLemmas.{first_parts}
use Rattle.regex_lite_syntax.proofs.prefilter.words.SpellingLemmas.{same_limits}
use Rattle.regex_lite_syntax.proofs.prefilter.words.WordPassLemmas.{all_passes, pass_read}
use Rattle.regex_lite_syntax.proofs.prefilter.words.WordWalkLemmas.{next_branch, part_read}
use Rattle.regex_lite_syntax.proofs.prefilter.words.WordPassLemmas.{passes_shut, ReadsPasses}
use Rattle.regex_lite_syntax.proofs.prefilter.words.WordWalkLemmas.{ReadsBranches, ReadsParts}
use Rattle.regex_lite_syntax.proofs.prefilter.words.walk.WordWalk.+extend.Goals as goal
use Rattle.regex_lite_syntax.proofs.prefilter.words.walk.WordWalk.+extend.Goals.{
  extend_by_branches-else-not-is_first-via-then-not-is_first+in_ok-begin_again+else-not-branch,
  extend_by_branches-else-not-is_first-via-else-not-is_first,
}

pub extend_by_branches-loop-branch-preserved : goal.extend_by_branches-loop-branch-preserved
extend_by_branches-loop-branch-preserved t c =
    let v = c.loop-branch.invariant in
    let hirs = c.args.branches.now in
    let k = c.loop-branch.branch-index in
    let branch = c.branch-item.result in
    let all = trees_of hirs in
    let left = trees_of (drop (k + 1) hirs) in
    let one = trees_more hirs k branch c.loop-branch-test.true c.branch-item.is in
    let extends = c.in_ok-extend.ensures c.if-not-branch-2.false in
    let before = c.args.self.now in
    let now = c.loop-branch.self in
    let reads = subst (λ (rest : Trees). ReadsBranches all rest before now c.loop-branch.is_first) one
    v.reads in
    record {
      all_read = v.all_read;
      stem = v.stem;
      reads = subst (λ next. ReadsBranches all left before next false) (sym c.close-else-not-branch-2.ensures)
          (elim c.else-not-is_first.branch [
            | extend_by_branches-else-not-is_first-via-then-not-is_first+in_ok-begin_again+else-not-branch w ↦
                next_branch all left (tree_of branch) _ before now c.extend.new.self v.all_read
                (subst (ReadsBranches all _ before now) w.if-not-is_first.true reads)
                (subst (λ walk. GrowsBy (tree_of branch) walk c.extend.new.self)
                (w.self-is ∙ w.in_ok-begin_again.ensures w.if-not-branch.false
                ∙ ap (λ stem. begun now stem _) (w.deref.ensures.value ∙ v.stem)) extends)
            | extend_by_branches-else-not-is_first-via-else-not-is_first w ↦
                first_branch all left (tree_of branch) before now c.extend.new.self
                (subst (ReadsBranches all _ before now) w.if-not-is_first.false reads)
                (subst (λ walk. GrowsBy (tree_of branch) walk c.extend.new.self)
                w.self-is extends)
          ]);
    }

pub extend_by_branches-returns : goal.extend_by_branches-returns
extend_by_branches-returns t c = λ may.
    let none_left = drop_all c.loop-branch.branch-index c.args.branches.now c.loop-branch-test.false in
    all_branches (trees_of c.args.branches.now) c.args.self.now c.loop-branch.self
    c.loop-branch.is_first
    (subst (λ left. ReadsBranches (trees_of c.args.branches.now) left c.args.self.now
    c.loop-branch.self c.loop-branch.is_first) (ap trees_of none_left)
    c.loop-branch.invariant.reads)

pub extend_by_parts-parts-init : goal.extend_by_parts-parts-init
extend_by_parts-parts-init t c =
    let hirs = c.args.parts.now in
    let read = c.in_ok-read.read in
    let front = map tree_of (take read hirs) in
    let back = map tree_of (drop read hirs) in
    subst (λ all. ReadsParts (trees all) (trees back) c.args.self.now c.extend_by_row.new.self)
    (sym (map-append tree_of (take read hirs) (drop read hirs))
    ∙ ap (map tree_of) (take-append-drop read hirs))
    (first_parts front back c.args.self.now c.extend_by_row.new.self c.in_ok-read.ensures.grown)

pub extend_by_parts-parts-preserved : goal.extend_by_parts-parts-preserved
extend_by_parts-parts-preserved t c =
    let hirs = c.args.parts.now in
    let k = c.parts.k in
    let part = c.index-parts-k.result in
    let one = trees_more hirs k part c.parts-test.true c.index-parts-k.is in
    part_read (trees_of hirs) (trees_of (drop (k + 1) hirs)) (tree_of part) c.args.self.now
    c.parts.self c.extend.new.self
    (subst (λ left. ReadsParts (trees_of hirs) left c.args.self.now c.parts.self) one
    c.parts.invariant)
    (c.in_ok-extend.ensures c.if-not-branch.false)

pub extend_by_passes-passes-preserved : goal.extend_by_passes-passes-preserved
extend_by_passes-passes-preserved t c =
    pass_read (tree_of c.args.body.now) c.passes.pass c.if-pass-eq0.self c.args.self.now
    c.passes.self c.extend.new.self c.passes.invariant
    (c.in_ok-extend.ensures c.if-not-branch.false)

pub extend_by_passes-returns-then-not-self : goal.extend_by_passes-returns-then-not-self
extend_by_passes-returns-then-not-self t c = λ _ greedy.
    let body = tree_of c.args.body.now in
    let k = c.passes.pass in
    subst (GrowsBy _ c.args.self.now) (sym c.close.ensures)
    (passes_shut c.args.least c.args.most greedy body (k + 1) c.args.self.now
    (record c.extend.new.self { repeats = c.if-pass-eq0.self })
    (omega (arith, c.passes-test.true, c.min-passes.ensures))
    (pass_read body k c.if-pass-eq0.self c.args.self.now c.passes.self c.extend.new.self
    c.passes.invariant (c.in_ok-extend.ensures c.if-not-branch.false)))

pub extend_by_passes-returns-then-eq : goal.extend_by_passes-returns-then-eq
extend_by_passes-returns-then-eq t c = λ _ greedy.
    let passes = c.min-passes.result in
    all_passes c.args.least c.args.most greedy (tree_of c.args.body.now) passes c.args.self.now
    c.passes.self (omega (arith, c.min-passes.ensures))
    (same_limits passes c.args.most (sym c.eq.ensures ∙ c.if-eq.true))
    (subst (λ n. ReadsPasses (tree_of c.args.body.now) n c.args.self.now c.passes.self)
    (omega (arith, c.passes.auto.pass-end, c.passes-test.false)) c.passes.invariant)

pub extend_by_passes-returns : goal.extend_by_passes-returns
extend_by_passes-returns t c = λ _ greedy.
    subst (GrowsBy _ c.args.self.now) (sym c.close-2.ensures)
    (passes_shut c.args.least c.args.most greedy (tree_of c.args.body.now) c.passes.pass
    c.args.self.now c.passes.self
    (omega (arith, c.passes.auto.pass-end, c.min-passes.ensures)) c.passes.invariant)
