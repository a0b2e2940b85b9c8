use Rattle.regex_lite_syntax.proofs.Common.{◌≡◌, ◌+◌, ◌⊎◌, drop, IsTrue, sym, refl, ap, ◌∙◌, subst}
use Rattle.regex_lite_syntax.proofs.Common.{inl, inr, Tree, Trees, Chain, SomeBranch, tree_of}
use Rattle.regex_lite_syntax.proofs.Common.{MayBegin, BeginsOrPasses, arith, true, false, IsWider}
use Rattle.regex_lite_syntax.proofs.Common.{FirstSet}
use Rattle.std.proofs.Common.{nat_eq}
use Rattle.regex_lite_syntax.proofs.TreeLemmas.{trees_of, trees_more}
use Rattle.regex_lite_syntax.proofs.prefilter.first_set.StartLemmas.{grown_on, repetition_begins}
use Rattle.regex_lite_syntax.proofs.prefilter.first_set.StartLemmas.{part_more, branch_more}
use Rattle.regex_lite_syntax.proofs.prefilter.first_set.StartLemmas.{character_begins, class_begins}
use Rattle.regex_lite_syntax.proofs.LeafLemmas.{tree_is-Empty, tree_is-Char, tree_is-Class}
use Rattle.regex_lite_syntax.proofs.LeafLemmas.{tree_is-Look, tree_is-Capture, tree_is-Repetition}
use Rattle.regex_lite_syntax.proofs.LeafLemmas.{tree_is-Concat, tree_is-Alternation}
use Rattle.std.proofs.lemmas.List.{drop_all}
use Rattle.regex_lite_syntax.proofs.prefilter.first_set.FirstSet.+add.Goals as goal
use Rattle.regex_lite_syntax.proofs.prefilter.first_set.FirstSet.+add.Goals.{add_branches-then-add}
use Rattle.regex_lite_syntax.proofs.prefilter.first_set.FirstSet.+add.Goals.{add_branches-else-add}

pub add-returns-in-Concat-clause-begins : goal.add-returns-in-Concat-clause-begins
add-returns-in-Concat-clause-begins t c =
    subst (λ (tree : Tree). BeginsOrPasses tree c.add_parts.new.self c.add_parts.result)
    (sym (tree_is-Concat _ c.in-Concat.is c.deref-in-Concat.ensures.value))
    c.add_parts.ensures.begins

pub add-returns-in-Alternation-clause-begins : goal.add-returns-in-Alternation-clause-begins
add-returns-in-Alternation-clause-begins t c =
    subst (λ (tree : Tree). BeginsOrPasses tree c.add_branches.new.self c.add_branches.result)
    (sym (tree_is-Alternation _ c.in-Alternation.is c.deref-in-Alternation.ensures.value))
    c.add_branches.ensures.begins

pub add-returns-then-add-clause-begins : goal.add-returns-then-add-clause-begins
add-returns-then-add-clause-begins t c =
    let r = c.in-Repetition in
    let body = tree_of c.deref-in-Repetition.result.now in
    let same = tree_is-Repetition r.is c.deref-in-Repetition.ensures in
    subst (λ (tree : Tree). BeginsOrPasses tree c.add.new.self c.add.result) (sym same)
    (repetition_begins r.least r.most r.greedy body c.add.new.self c.add.result c.add.result
    (λ e. subst IsTrue (sym e) refl) (λ e. subst IsTrue (sym c.if-add.true) refl)
    c.add.ensures.begins)

pub add-returns-else-add-clause-begins : goal.add-returns-else-add-clause-begins
add-returns-else-add-clause-begins t c =
    let r = c.in-Repetition in
    let body = tree_of c.deref-in-Repetition.result.now in
    let same = tree_is-Repetition r.is c.deref-in-Repetition.ensures in
    let not_body = c.if-add.false in
    subst (λ (tree : Tree). BeginsOrPasses tree c.add.new.self (nat_eq r.least 0)) (sym same)
    (repetition_begins r.least r.most r.greedy body c.add.new.self c.add.result (nat_eq r.least 0)
    (λ e. absurd (let both = sym e ∙ not_body in cc))
    (λ e. subst (λ z. IsTrue (nat_eq z 0)) (sym e) refl)
    c.add.ensures.begins)

pub add_parts-loop-part-preserved : goal.add_parts-loop-part-preserved
add_parts-loop-part-preserved t c =
    let v = c.loop-part.invariant in
    let hirs = c.args.parts.now in
    let k = c.loop-part.part-index in
    let part = c.part-item.result in
    let one = trees_more hirs k part c.loop-part-test.true c.part-item.is in
    record {
      grown = grown_on c.args.self.now c.loop-part.self c.add.new.self v.grown c.add.ensures.grown;
      left = λ h i j m.
          elim (part_more (tree_of part) (trees_of (drop (k + 1) hirs)) c.loop-part.self
          c.add.new.self c.add.result c.add.ensures.grown c.add.ensures.begins h i j
          (subst (λ (z : Trees). MayBegin c.loop-part.self h i ⊎ Chain h z i j) one
          (v.left h i j m))) [
            | inl begins ↦ inl begins
            | inr (p, on) ↦ inr on
          ];
    }

pub add_parts-returns-then-not-add-clause-begins :
    goal.add_parts-returns-then-not-add-clause-begins
add_parts-returns-then-not-add-clause-begins t c =
    let v = c.loop-part.invariant in
    let hirs = c.args.parts.now in
    let k = c.loop-part.part-index in
    let part = c.part-item.result in
    let one = trees_more hirs k part c.loop-part-test.true c.part-item.is in
    λ h i j m. elim (part_more (tree_of part) (trees_of (drop (k + 1) hirs)) c.loop-part.self
    c.add.new.self c.add.result c.add.ensures.grown c.add.ensures.begins h i j
    (subst (λ (z : Trees). MayBegin c.loop-part.self h i ⊎ Chain h z i j) one (v.left h i j m))) [
      | inl begins ↦ inl begins
      | inr (p, on) ↦ absurd (let never = c.if-not-add.true in cc)
    ]

pub add_branches-loop-branch-preserved : goal.add_branches-loop-branch-preserved
add_branches-loop-branch-preserved t c =
    let v = c.loop-branch.invariant in
    let hirs = c.args.branches.now in
    let k = c.loop-branch.branch-index in
    let branch = c.branch-item.result in
    let one = trees_more hirs k branch c.loop-branch-test.true c.branch-item.is in
    let before = c.loop-branch.passable in
    let after = c.if-add.passable in
    let changes : (IsTrue before → IsTrue after) × (IsTrue c.add.result → IsTrue after) =
    elim c.if-add.branch [
      | add_branches-then-add w ↦ (
        λ p. subst IsTrue (sym w.passable-is) refl,
        λ p. subst IsTrue (sym w.passable-is) refl,
      )
      | add_branches-else-add w ↦ (
        λ p. subst IsTrue (sym w.passable-is) p,
        λ p. absurd (let never = w.if-add.false in cc),
      )
    ] in
    record {
      grown =
          grown_on c.args.self.now c.loop-branch.self c.add.new.self v.grown c.add.ensures.grown;
      left = λ h i j m.
          branch_more (tree_of branch) (trees_of (drop (k + 1) hirs)) c.loop-branch.self
          c.add.new.self c.add.result c.add.ensures.grown c.add.ensures.begins h i j before after
          changes.0 changes.1
          (subst (λ (z : Trees). MayBegin c.loop-branch.self h i
          ⊎ ((IsTrue before × (i ≡ j)) ⊎ SomeBranch h z i j)) one (v.left h i j m));
    }

pub add-returns-in-Empty-clause-begins : goal.add-returns-in-Empty-clause-begins
add-returns-in-Empty-clause-begins t c =
    subst (λ (tree : Tree). BeginsOrPasses tree c.args.self.now true)
    (sym (tree_is-Empty c.in-Empty.is)) (λ h i j at. inr (refl, at))

pub add-returns-in-Char-clause-begins : goal.add-returns-in-Char-clause-begins
add-returns-in-Char-clause-begins t c =
    subst (λ (tree : Tree). BeginsOrPasses tree c.add_char.new.self false)
    (sym (tree_is-Char c.in-Char.is))
    (character_begins c.in-Char.c c.add_char.new.self c.add_char.ensures.added)

pub add-returns-in-Class-clause-begins : goal.add-returns-in-Class-clause-begins
add-returns-in-Class-clause-begins t c =
    subst (λ (tree : Tree). BeginsOrPasses tree c.add_class.new.self false)
    (sym (tree_is-Class c.in-Class.is c.deref.ensures))
    (class_begins c.deref.result.now c.add_class.new.self c.add_class.ensures.added)

pub add-returns-in-Look-clause-begins : goal.add-returns-in-Look-clause-begins
add-returns-in-Look-clause-begins t c =
    subst (λ (tree : Tree). BeginsOrPasses tree c.add_look.new.self c.add_look.result)
    (sym (tree_is-Look c.in-Look.is)) c.add_look.ensures.begins

pub add-returns-in-Capture-clause-begins : goal.add-returns-in-Capture-clause-begins
add-returns-in-Capture-clause-begins t c =
    subst (λ (tree : Tree). BeginsOrPasses tree c.add-in-Capture.new.self c.add-in-Capture.result)
    (sym (tree_is-Capture c.in-Capture.is c.deref-in-Capture.ensures))
    c.add-in-Capture.ensures.begins

same_width : (s : FirstSet) → IsWider s s
same_width s = record { with = λ c begins. begins; at_start = λ at_start. at_start }

pub add_parts-loop-part-init : goal.add_parts-loop-part-init
add_parts-loop-part-init t c =
    record { grown = same_width c.args.self.now; left = λ h i j m. inr m }

pub add_parts-returns-clause-begins : goal.add_parts-returns-clause-begins
add_parts-returns-clause-begins t c = λ h i j m.
    elim (c.loop-part.invariant.left h i j m) [
      | inl begins ↦ inl begins
      | inr left ↦
          inr (
            refl,
            subst (λ (z : Trees). Chain h z i j) (ap trees_of (drop_all c.loop-part.part-index
                c.args.parts.now (omega (arith, c.loop-part-test.false)))) left,
          )
    ]

pub add_branches-loop-branch-init : goal.add_branches-loop-branch-init
add_branches-loop-branch-init t c =
    record { grown = same_width c.args.self.now; left = λ h i j m. inr (inr m) }

pub add_branches-returns-clause-begins : goal.add_branches-returns-clause-begins
add_branches-returns-clause-begins t c = λ h i j m.
    elim (c.loop-branch.invariant.left h i j m) [
      | inl begins ↦ inl begins
      | inr (inl passes) ↦ inr passes
      | inr (inr left) ↦
          absurd (subst (λ (z : Trees). SomeBranch h z i j) (ap trees_of (drop_all
          c.loop-branch.branch-index c.args.branches.now (omega (arith, c.loop-branch-test.false))))
          left)
    ]
