use Rattle.regex_lite_syntax.proofs.Common.{◌≡◌, ◌+◌, ◌∙◌, Bool, false, true, false≢true, refl}
use Rattle.regex_lite_syntax.proofs.Common.{ap, arith, drop, drop_all, repetition, subst, sym}
use Rattle.regex_lite_syntax.proofs.Common.{concat, tree_of, [], ◌∷◌, begins_with}
use Rattle.std.proofs.Common.{encode_utf8_all}
use Rattle.std.specs.Prelude.{not}
use Rattle.regex_lite_syntax.specs.Prefilter.Needed.{IsNeededBy}
use Rattle.regex_lite_syntax.specs.Prefilter.NeededWalk.{as_needed, Chooses, EndsRow, FindsPast}
use Rattle.regex_lite_syntax.specs.declared.prefilter.words.needed_walk.NeededWalk.{NeededWalk}
use Rattle.regex_lite_syntax.proofs.LeafLemmas.{tree_is-Alternation, tree_is-Char}
use Rattle.regex_lite_syntax.proofs.LeafLemmas.{tree_is-Concat, tree_is-Repetition}
use Rattle.regex_lite_syntax.proofs.TreeLemmas.{trees_more, trees_of}
use Rattle.regex_lite_syntax.proofs.prefilter.first_set.ReadLemmas.{reads_passes}
use Rattle.regex_lite_syntax.proofs.prefilter.words.NeededBranchLemmas.{among_first, among_second}
use Rattle.regex_lite_syntax.proofs.prefilter.words.NeededBranchLemmas.{branch_found, EachIfLeft}
use Rattle.regex_lite_syntax.proofs.prefilter.words.NeededBranchLemmas.{EachNeeds, needed_by_branches}
use Rattle.regex_lite_syntax.proofs.prefilter.words.NeededBranchLemmas.{reached_behind}
use Rattle.regex_lite_syntax.proofs.prefilter.words.NeededWalkLemmas.{all_parts_passed, chosen_first, finds_any}
use Rattle.regex_lite_syntax.proofs.prefilter.words.NeededWalkLemmas.{all_passes_passed}
use Rattle.regex_lite_syntax.proofs.prefilter.words.NeededWalkLemmas.{FindsPasses, pass_passed}
use Rattle.regex_lite_syntax.proofs.prefilter.words.NeededWalkLemmas.{finds_character}
use Rattle.regex_lite_syntax.proofs.prefilter.words.NeededWalkLemmas.{finds_passes, FindsParts, needed_by_walk}
use Rattle.regex_lite_syntax.proofs.prefilter.words.NeededWalkLemmas.{part_passed, parts_left}
use Rattle.regex_lite_syntax.proofs.prefilter.words.SpellingLemmas.{same_limits}
use Rattle.regex_lite_syntax.proofs.prefilter.words.needed_walk.NeededWalk.+visit.Goals as goal
use Rattle.regex_lite_syntax.proofs.prefilter.words.needed_walk.NeededWalk.+visit.Goals.{
  go_over-in-Concat,
  go_over-in_default,
  visit_parts-then-number-front,
  visit_parts-else-number-front,
}

pub visit_parts-returns-then-self-eq0 : goal.visit_parts-returns-then-self-eq0
visit_parts-returns-then-self-eq0 t c =
    let hirs = c.args.parts.now in
    parts_left (trees_of hirs) (trees_of (drop c.loop-number.number hirs)) c.args.self.now
    c.loop-number.self c.leave_rest.new.self c.loop-number.invariant c.leave_rest.ensures.all
    c.leave_rest.ensures.left

pub visit-returns-in-Char : goal.visit-returns-in-Char
visit-returns-in-Char t c =
    subst (λ tree. FindsPast tree c.args.self.now c.push_char.new.self)
    (sym (tree_is-Char c.in-Char.is))
    (finds_character c.in-Char.c c.args.self.now c.push_char.new.self c.push_char.ensures)

pub visit-returns-in-Alternation : goal.visit-returns-in-Alternation
visit-returns-in-Alternation t c =
    let left = c.leave-in-Alternation in
    let tree = tree_of c.args.hir.now in
    chosen_first tree c.args.self.now c.choose_among.new.self left.new.self
    (subst (λ tree. Chooses tree c.args.self.now c.choose_among.new.self)
    (sym (tree_is-Alternation _ c.in-Alternation.is c.deref-in-Alternation.ensures.value))
    c.choose_among.ensures)
    (finds_any tree c.choose_among.new.self left.new.self left.ensures.reads left.ensures.left)

pub visit_passes-passes-preserved : goal.visit_passes-passes-preserved
visit_passes-passes-preserved t c =
    pass_passed (tree_of c.args.body.now) c.passes._k c.args.self.now c.passes.self
    c.visit.new.self c.passes.invariant c.visit.ensures

pub visit_passes-returns-then-len : goal.visit_passes-returns-then-len
visit_passes-returns-then-len t c = λ greedy.
    finds_passes c.args.least c.args.most greedy (tree_of c.args.body.now) (c.passes._k + 1)
    c.args.self.now c.visit.new.self c.end_row.new.self (omega arith)
    (omega (arith, c.passes-test.true))
    (pass_passed (tree_of c.args.body.now) c.passes._k c.args.self.now c.passes.self
    c.visit.new.self c.passes.invariant c.visit.ensures) c.end_row.ensures

pub visit_passes-returns-then-ne : goal.visit_passes-returns-then-ne
visit_passes-returns-then-ne t c = λ greedy.
    finds_passes c.args.least c.args.most greedy (tree_of c.args.body.now) c.passes._k
    c.args.self.now c.passes.self c.end_row-then-ne.new.self
    (omega (arith, c.requires, c.passes-test.false)) c.passes.auto._k-end c.passes.invariant
    c.end_row-then-ne.ensures

is_sure : (b : Bool) → not b ≡ false → b ≡ true
is_sure true never = refl
is_sure false never = absurd (false≢true (sym never))

pub visit_passes-returns-else-ne : goal.visit_passes-returns-else-ne
visit_passes-returns-else-ne t c = λ greedy.
    all_passes_passed c.args.least c.args.most greedy (tree_of c.args.body.now) c.args.self.now
    c.passes.self c.requires
    (same_limits c.args.least c.args.most (is_sure _ (sym c.ne.ensures ∙ c.if-ne.false)))
    (subst (λ n. FindsPasses (tree_of c.args.body.now) n c.args.self.now c.passes.self)
    (omega (arith, c.passes.auto._k-end, c.passes-test.false)) c.passes.invariant)

pub visit-returns-then-least-gt0 : goal.visit-returns-then-least-gt0
visit-returns-then-least-gt0 t c =
    let r = c.in-Repetition in
    subst (λ tree. FindsPast tree c.args.self.now c.visit_passes.new.self)
    (sym (tree_is-Repetition r.is c.deref-then-least-gt0.ensures)) (c.visit_passes.ensures r.greedy)

pub visit-returns-else-least-gt0 : goal.visit-returns-else-least-gt0
visit-returns-else-least-gt0 t c =
    let r = c.in-Repetition in
    let body = c.deref-else-least-gt0 in
    let walk = c.leave.new.self in
    subst (λ tree. FindsPast tree c.args.self.now walk) (sym (tree_is-Repetition r.is body.ensures))
    (finds_any (repetition r.least r.most r.greedy (tree_of body.result.now)) c.args.self.now walk
    (reads_passes r.least r.most r.greedy (tree_of body.result.now) walk.read
    c.leave.ensures.reads) c.leave.ensures.left)

pub visit_parts-loop-number-preserved : goal.visit_parts-loop-number-preserved
visit_parts-loop-number-preserved t c =
    let hirs = c.args.parts.now in
    let k = c.loop-number.number in
    let part = c.index-parts-number.result in
    let walk = c.loop-number.self in
    let one = trees_more hirs k part c.loop-number-test.true c.index-parts-number.is in
    let past : FindsPast (tree_of part) walk c.if-number-front.self =
    elim c.if-number-front.branch [
      | visit_parts-then-number-front w ↦
          subst (FindsPast (tree_of part) walk) (sym w.self-is)
          (finds_any (tree_of part) walk w.leave.new.self w.leave.ensures.reads
          w.leave.ensures.left)
      | visit_parts-else-number-front w ↦
          subst (FindsPast (tree_of part) walk) (sym w.self-is) w.visit.ensures
    ] in
    part_passed (trees_of hirs) (trees_of (drop (k + 1) hirs)) (tree_of part) c.args.self.now
    walk c.if-number-front.self
    (subst (λ left. FindsParts (trees_of hirs) left c.args.self.now walk) one
    c.loop-number.invariant)
    past

pub visit_parts-returns : goal.visit_parts-returns
visit_parts-returns t c =
    let hirs = c.args.parts.now in
    all_parts_passed (trees_of hirs) c.args.self.now c.loop-number.self
    (subst (λ left. FindsParts (trees_of hirs) left c.args.self.now c.loop-number.self)
    (ap trees_of (drop_all c.loop-number.number hirs (omega (arith, c.loop-number-test.false))))
    c.loop-number.invariant)

pub choose_among-returns-then-self : goal.choose_among-returns-then-self
choose_among-returns-then-self t c =
    let walk = c.args.self.now in
    let own = c.in-Some.found in
    let lead = c.add_starts.new.self in
    record {
      finds = λ h bytes i j found matches. record {
        best = reached_behind walk own.words own.lead lead bytes (encode_utf8_all (drop i h)) found
            (λ ch is. among_first c.set_to.new.self own.lead lead c.add_starts.ensures ch
            (ap (λ s. begins_with s ch) c.set_to.ensures ∙ is))
            (among_second c.set_to.new.self own.lead lead c.add_starts.ensures)
            (c.in-Some.ensures h i j matches);
        row_at = found.row_at;
        row = found.row;
        behind = found.behind;
        led = found.led;
        read = found.read;
      };
      read = refl;
    }

pub go_over-returns : goal.go_over-returns
go_over-returns t c = elim c.match-hir.branch [
  | go_over-in-Concat w ↦
      let parts = w.deref.result.now in
      subst (λ tree. IsNeededBy tree (as_needed after.best after.best_lead))
      (sym (tree_is-Concat w.in-Concat.parts w.in-Concat.is w.deref.ensures.value))
      (needed_by_walk (concat (trees_of parts)) _ w.visit_parts.new.self after no_best
      c.clear.ensures w.visit_parts.ensures
      (subst (λ now. EndsRow now after) w.self-is c.end_row.ensures))
  | go_over-in_default w ↦
      needed_by_walk (tree_of c.args.hir.now) _ w.visit.new.self after no_best c.clear.ensures
      w.visit.ensures (subst (λ now. EndsRow now after) w.self-is c.end_row.ensures)
]
  where
    after : NeededWalk
    after = c.end_row.new.self

    no_best : c.set_to_one.new.self ≡ [] ∷ []
    no_best = c.set_to_one.ensures ∙ ap (λ word. word ∷ []) c.clear.ensures

pub words_of-loop-branch-init : goal.words_of-loop-branch-init
words_of-loop-branch-init t c = λ needed more each. each

pub words_of-loop-branch-preserved : goal.words_of-loop-branch-preserved
words_of-loop-branch-preserved t c =
    let hirs = c.args.branches.now in
    let k = c.loop-branch.branch-index in
    let branch = c.branch-item.result in
    let one = trees_more hirs k branch c.loop-branch-test.true c.branch-item.is in
    let found = c.loop-branch.found in
    let own = c.go_over.new.self in
    let all = c.add.new.self in
    let has = c.if-not-add.ensures in
    branch_found (trees_of hirs) (trees_of (drop (k + 1) hirs)) (tree_of branch)
    (as_needed found.words found.lead) (as_needed own.best own.best_lead)
    (as_needed all.words all.lead) c.go_over.ensures
    (c.add.ensures.added cc) (c.add.ensures.kept cc)
    (subst (λ left. EachIfLeft (trees_of hirs) left (as_needed found.words found.lead)) one
    c.loop-branch.invariant)

pub words_of-returns : goal.words_of-returns
words_of-returns t c =
    let hirs = c.args.branches.now in
    let needed = as_needed c.loop-branch.found.words c.loop-branch.found.lead in
    needed_by_branches (trees_of hirs) needed
    (c.loop-branch.invariant needed (λ bytes from reaches. reaches)
    (subst (λ left. EachNeeds left needed)
    (sym (ap trees_of (drop_all c.loop-branch.branch-index hirs
    (omega (arith, c.loop-branch-test.false))))) tt))
