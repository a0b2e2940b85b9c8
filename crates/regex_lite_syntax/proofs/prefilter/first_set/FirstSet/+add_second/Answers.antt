use Rattle.regex_lite_syntax.proofs.Common.{◌≡◌, ℕ, ◌+◌, ◌⊎◌, drop, sym, ◌∙◌, subst, inl, Text}
use Rattle.regex_lite_syntax.proofs.Common.{Trees, Chain, SomeBranch, tree_of, Reads, ReadsEach}
use Rattle.regex_lite_syntax.proofs.Common.{IsWider, FirstSet, arith, Tree}
use Rattle.std.proofs.Common.{IfSome}
use Rattle.regex_lite_syntax.proofs.TreeLemmas.{trees_of, trees_more}
use Rattle.regex_lite_syntax.specs.declared.prefilter.prefixes.PrefixLen.TheVariants.{One, More}
use Rattle.regex_lite_syntax.specs.declared.prefilter.prefixes.PrefixLen.{PrefixLen}
use Rattle.regex_lite_syntax.proofs.prefilter.first_set.StartLemmas.{grown_on}
use Rattle.regex_lite_syntax.proofs.prefilter.prefixes.HeadLemmas.{as_one, branch_read, of_more}
use Rattle.regex_lite_syntax.proofs.prefilter.prefixes.HeadLemmas.{part_read, reads_grown}
use Rattle.regex_lite_syntax.proofs.LeafLemmas.{tree_is-Capture, tree_is-Concat}
use Rattle.regex_lite_syntax.proofs.LeafLemmas.{tree_is-Alternation}
use Rattle.std.proofs.lemmas.Grind.{common_steps}
use Rattle.regex_lite_syntax.proofs.prefilter.first_set.FirstSet.+add_second.Goals as goal
use Rattle.regex_lite_syntax.proofs.prefilter.first_set.FirstSet.+add_second.Goals.{
  add_second_of_parts-in-Nothing+in_ok-head-in-Nothing,
  add_second_of_parts-in-One,
  add_second_of_branches-in-One,
  add_second_of_branches-in-More,
}

pub add_second_of_parts-loop-part-preserved : goal.add_second_of_parts-loop-part-preserved
add_second_of_parts-loop-part-preserved t c =
    let v = c.loop-part.invariant in
    let hirs = c.args.parts.now in
    let k = c.loop-part.part-index in
    let part = c.part-item.result in
    let one = trees_more hirs k part c.loop-part-test.true c.part-item.is in
    let rest = trees_of (drop (k + 1) hirs) in
    let old = c.loop-part.self in
    let before = c.loop-part.head in
    let new = c.match-head.self in
    let after = c.match-head.head in
    elim c.match-head.branch [
      | add_second_of_parts-in-Nothing+in_ok-head-in-Nothing w ↦
          let added = w.add_second.new.self in
          let reported = w.in_ok-head-in-Nothing.ensures in
          record {
            grown = subst (IsWider c.args.self.now) (sym w.self-is)
                (grown_on c.args.self.now old added v.grown reported.grown);
            left = λ h i j m. part_read (tree_of part) rest old new before after h i j
                (λ l n read here. subst (λ z. Reads z h i n after) (sym w.self-is)
                (subst (Reads added h i n) (sym w.head-is)
                (subst (λ z. Reads added h z n w.in_ok-head-in-Nothing.head)
                (sym (subst (Reads old h i l) w.in-Nothing.is read)) (reported.reads h l n here))))
                (chained old h i j before one (v.left h i j m));
          }
      | add_second_of_parts-in-One w ↦
          let added = w.add_after_one-head.new.self in
          let reported = w.add_after_one-head.ensures in
          record {
            grown = subst (IsWider c.args.self.now) (sym w.self-is)
                (grown_on c.args.self.now old added v.grown reported.grown);
            left = λ h i j m. part_read (tree_of part) rest old new before after h i j
                (λ l n read here. subst (λ z. Reads z h i n after) (sym w.self-is)
                (subst (Reads added h i n) (sym w.head-is)
                (reported.reads h i l n (subst (Reads old h i l) w.in-One.is read) here)))
                (chained old h i j before one (v.left h i j m));
          }
    ]
  where
    chained : {these those : Trees} (s : FirstSet) (h : Text) (i j : ℕ) (head : PrefixLen)
        → these ≡ those → (k : ℕ) × Reads s h i k head × Chain h these k j
        → (k : ℕ) × Reads s h i k head × Chain h those k j
    chained s h i j head same (k, read, on) = (k, read, subst (λ z. Chain h z k j) same on)

pub add_second_of_branches-loop-branch-preserved : goal.add_second_of_branches-loop-branch-preserved
add_second_of_branches-loop-branch-preserved t c =
    let v = c.loop-branch.invariant in
    let hirs = c.args.branches.now in
    let k = c.loop-branch.branch-index in
    let branch = c.branch-item.result in
    let one = trees_more hirs k branch c.loop-branch-test.true c.branch-item.is in
    let old = c.loop-branch.self in
    let new = c.add_second.new.self in
    let before = c.loop-branch.head in
    let here = c.in_ok-add_second.field-0 in
    let after = c.match-branch-2.head in
    let grown = c.in_ok-add_second.ensures.grown in
    let each : ReadsEach (tree_of branch) new here = c.in_ok-add_second.ensures.reads in
    elim c.match-branch-2.branch [
      | add_second_of_branches-in-One w ↦
          record {
            grown = grown_on c.args.self.now old new v.grown grown;
            some = inl w.head-is;
            left = λ h i j m. branch_read (tree_of branch) (trees_of (drop (k + 1) hirs)) old new
                before after h i j
                (λ read. subst (Reads new h i j) (sym w.head-is)
                (as_one new h i j before v.some (reads_grown old new h i j before grown read)))
                (λ read. subst (Reads new h i j) (w.in-One.is ∙ sym w.head-is) (each h i j read))
                (subst (λ z. Reads old h i j before ⊎ SomeBranch h z i j) one (v.left h i j m));
          }
      | add_second_of_branches-in-More w ↦
          let some : (after ≡ One) ⊎ (after ≡ More) =
          subst (λ z. (z ≡ One) ⊎ (z ≡ More)) (sym w.head-is) v.some in
          record {
            grown = grown_on c.args.self.now old new v.grown grown;
            some = some;
            left = λ h i j m. branch_read (tree_of branch) (trees_of (drop (k + 1) hirs)) old new
                before after h i j
                (λ read. subst (Reads new h i j) (sym w.head-is)
                (reads_grown old new h i j before grown read))
                (λ read. of_more new h i j after some
                (subst (Reads new h i j) w.in-More.is (each h i j read)))
                (subst (λ z. Reads old h i j before ⊎ SomeBranch h z i j) one (v.left h i j m));
          }
    ]

pub add_second-returns-in-Concat-clause-reads : goal.add_second-returns-in-Concat-clause-reads
add_second-returns-in-Concat-clause-reads t c =
    let parts = c.add_second_of_parts in
    subst (λ (tree : Tree). IfSome parts.result (ReadsEach tree parts.new.self))
    (sym (tree_is-Concat _ c.in-Concat.is c.deref-in-Concat.ensures.value)) parts.ensures.reads

pub add_second-returns-in-Alternation-clause-reads :
    goal.add_second-returns-in-Alternation-clause-reads
add_second-returns-in-Alternation-clause-reads t c =
    let branches = c.add_second_of_branches in
    subst (λ (tree : Tree). IfSome branches.result (ReadsEach tree branches.new.self))
    (sym (tree_is-Alternation _ c.in-Alternation.is c.deref-in-Alternation.ensures.value))
    branches.ensures.reads

pub add_second-returns-in-Capture-clause-reads : goal.add_second-returns-in-Capture-clause-reads
add_second-returns-in-Capture-clause-reads t c =
    let body = c.add_second-in-Capture in
    subst (λ (tree : Tree). IfSome body.result (ReadsEach tree body.new.self))
    (sym (tree_is-Capture c.in-Capture.is c.deref-in-Capture.ensures)) body.ensures.reads

-- The goals from here on need no lemma of their own. They have answers because the prover would
-- try other calls first, which takes long
pub add_second_of_branches-returns-clause-reads : goal.add_second_of_branches-returns-clause-reads
add_second_of_branches-returns-clause-reads t c = grind (arith, common_steps)

pub add_second_of_parts-returns-clause-reads : goal.add_second_of_parts-returns-clause-reads
add_second_of_parts-returns-clause-reads t c = grind (arith, common_steps)
