use Rattle.regex_lite_meta.proofs.Common.{◌+◌, length, map, chars, sym}
use Rattle.regex_lite_meta.proofs.Common.{◌∙◌, subst, arith, rules, slice_index, table_of_list}
use Rattle.regex_lite_engine.proofs.Common.{length-set, ◌≤◌, false, IsTrue}
use Rattle.regex_lite_engine.proofs.pikevm.ShortestLemmas.{not_true}
use Rattle.regex_lite_engine.specs.Search.Starts.{start_numbered}
use Rattle.regex_lite_meta.proofs.list_matches.TriedLemmas.{AreTried, dfa_position_of, start_below}
use Rattle.regex_lite_meta.proofs.list_matches.TriedLemmas.{left_from, none_left, none_tried_yet}
use Rattle.regex_lite_meta.proofs.list_matches.TriedLemmas.{all_tried, passed_by, tried_one, undue}
use Rattle.regex_lite_meta.proofs.list_matches.TriedLemmas.{dfa_position_read, start_inside}
use Rattle.regex_lite_meta.proofs.list_matches.PassLemmas.{passed_on}
use Rattle.regex_lite_meta.proofs.list_matches.pass.ListPass.try_each.Goals as goal
use Rattle.regex_lite_meta.proofs.list_matches.pass.ListPass.try_each.Goals.{}
use Rattle.regex_lite_meta.proofs.list_matches.pass.ListPass.try_each.Goals.{}
use Rattle.regex_lite_meta.proofs.list_matches.pass.ListPass.try_each.Goals.{then-is_due+else-is_spent+in_ok-status}
use Rattle.regex_lite_meta.proofs.list_matches.pass.ListPass.try_each.Goals.{else-is_due}

pub listed-init : goal.listed-init
listed-init c =
    let same_table = c.come_to.ensures.table ∙ c.requires.pass.table in
    let same_entries = c.come_to.ensures.entries ∙ c.requires.pass.entries in
    record {
      tried = λ s p is passed.
          none_tried_yet c.args.list.now c.args.haystack.now c.utf8.haystack s p _ _
          (rw (same_table, same_entries) at c.come_to.ensures.starts p is) passed;
      all = c.requires.pass.all;
      kept = c.requires.kept;
      ready = λ none. none;
    }

pub index-requires : goal.index-requires
index-requires c =
    let same_table = c.come_to.ensures.table ∙ c.requires.pass.table in
    let same_entries = c.come_to.ensures.entries ∙ c.requires.pass.entries in
    let all = c.listed.invariant.all in
    let below = start_below c.args.list.now (table_of_list c.args.list.now)
    (chars c.args.haystack.now) c.requires.here.0 c.listed.k _ c.start-number.result
    (rw (same_table, same_entries) at c.come_to.ensures.starts c.requires.here.0 c.requires.here.1)
    (rw same_entries at c.start-number.ensures) in
    omega (arith, all, below, c.listed.statuses.ok)

pub try_at-requires-clause-number : goal.try_at-requires-clause-number
try_at-requires-clause-number c =
    let same_table = c.come_to.ensures.table ∙ c.requires.pass.table in
    let same_entries = c.come_to.ensures.entries ∙ c.requires.pass.entries in
    start_below c.args.list.now (table_of_list c.args.list.now)
    (chars c.args.haystack.now) c.requires.here.0 c.listed.k _ c.start-number.result
    (rw (same_table, same_entries) at c.come_to.ensures.starts c.requires.here.0 c.requires.here.1)
    (rw same_entries at c.start-number.ensures)

pub index_mut-requires : goal.index_mut-requires
index_mut-requires c =
    let same_table = c.come_to.ensures.table ∙ c.requires.pass.table in
    let same_entries = c.come_to.ensures.entries ∙ c.requires.pass.entries in
    let all = c.listed.invariant.all in
    let below = start_below c.args.list.now (table_of_list c.args.list.now)
    (chars c.args.haystack.now) c.requires.here.0 c.listed.k _ c.start-number.result
    (rw (same_table, same_entries) at c.come_to.ensures.starts c.requires.here.0 c.requires.here.1)
    (rw same_entries at c.start-number.ensures) in
    omega (arith, all, below, c.listed.statuses.ok)

pub returns-then-is_spent-clause-tried : goal.returns-then-is_spent-clause-tried
returns-then-is_spent-clause-tried c = λ s p is passed. (
  (c.listed.invariant.tried s p is passed).passed,
  λ all. absurd (let is : IsTrue false = all in cc),
)

pub returns-clause-tried : goal.returns-clause-tried
returns-clause-tried c = λ s p is passed.
    let same_entries = c.come_to.ensures.entries ∙ c.requires.pass.entries in
    let tried = c.listed.invariant.tried s p is passed in
    let starts = map (start_numbered c.args.list.now.entries) c.come_to.new.self.numbers.items in
    let last : length starts ≤ c.listed.k
    = omega (arith, c.listed-test.false, rw same_entries at c.len-k-end.ensures) in (
      tried.passed,
      λ all. all_tried c.args.list.now c.args.haystack.now c.utf8.haystack s p
          c.listed.statuses.items
          (subst (λ z. AreTried c.args.list.now c.args.haystack.now s p z
          c.listed.statuses.items) (none_left starts c.listed.k last) tried),
    )

pub listed-preserved : goal.listed-preserved
listed-preserved c =
    let list = c.args.list.now in
    let haystack = c.args.haystack.now in
    let same_table = c.come_to.ensures.table ∙ c.requires.pass.table in
    let same_entries = c.come_to.ensures.entries ∙ c.requires.pass.entries in
    let v = c.listed.invariant in
    let start = c.start-number.result in
    let number = start.number in
    let starts = map (start_numbered list.entries) c.come_to.new.self.numbers.items in
    let old = c.listed.statuses.items in
    let at = rw same_entries at c.start-number.ensures in
    let are = rw (same_table, same_entries) at c.come_to.ensures.starts c.requires.here.0
    c.requires.here.1 in
    let below = start_below list (table_of_list list) (chars haystack) c.requires.here.0 c.listed.k
    starts start are at in
    let entry = start_inside list.entries 0 c.listed.k starts start are.in_order at in
    let all = v.all in
    let read = dfa_position_read old number c.index.result.now (omega (arith, all, below))
    c.index.ensures in
    record {
      tried = λ s p is passed.
          let before = v.tried s p is passed in
          let now = subst (λ z. AreTried list haystack s p z old)
          (left_from starts c.listed.k start at)
          before in
          let known = before.passed.each number below in
          elim c.if-is_due.branch [
            | then-is_due+else-is_spent+in_ok-status w ↦
                let due = c.is_due.ensures.due (search rules) in
                let none = (rw (read ∙ due.1) at known).1 in
                rw w.statuses-is
                (tried_one list haystack c.utf8.haystack s p start _ old w.in_ok-status.status
                below none.from
                (passed_on (table_of_list list) haystack c.utf8.haystack
                (slice_index list.entries number) s p (p + 1) w.in_ok-status.status none
                (w.in_ok-status.ensures.reported p is)) now)
            | else-is_due w ↦
                rw w.statuses-is
                (passed_by list haystack c.utf8.haystack s p start _ old entry
                (undue list haystack c.utf8.haystack s p (slice_index list.entries number)
                (dfa_position_of old number) c.args.here is
                (λ from is_open. c.is_due.ensures.later
                (not_true c.is_due.result w.if-is_due.false) from (sym read ∙ is_open)) known) now)
          ];
      all = elim c.if-is_due.branch [
        | then-is_due+else-is_spent+in_ok-status w ↦
            rw w.statuses-is (length-set old number w.in_ok-status.status ∙ v.all)
        | else-is_due w ↦ rw w.statuses-is v.all
      ];
      kept = elim c.if-is_due.branch [
        | then-is_due+else-is_spent+in_ok-status w ↦ rw w.kept-is w.in_ok-status.ensures.kept
        | else-is_due w ↦ rw w.kept-is v.kept
      ];
      ready = elim c.if-is_due.branch [
        | then-is_due+else-is_spent+in_ok-status w ↦
            rw w.kept-is (λ none. (w.in_ok-status.ensures.ready (v.ready none)).0)
        | else-is_due w ↦ rw w.kept-is v.ready
      ];
    }
