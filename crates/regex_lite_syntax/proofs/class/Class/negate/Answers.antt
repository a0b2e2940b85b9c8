use Rattle.regex_lite_syntax.proofs.Common.{◌≡◌, ◌+◌, ◌<◌, ◌≤◌, length, get_or, take, drop, ap, ◌∙◌}
use Rattle.regex_lite_syntax.proofs.Common.{arith, drop_more, take_all, start_of, in_ranges}
use Rattle.regex_lite_syntax.proofs.Common.{next_character, ClassRange}
use Rattle.regex_lite_syntax.proofs.RangeLemmas.{next_above, in_ranges_more}
use Rattle.regex_lite_syntax.proofs.class.BetweenRangeLemmas.{span_before, start_next, before_next}
use Rattle.regex_lite_syntax.proofs.class.BetweenRangeLemmas.{gap_step, last_gap, runs_sooner}
use Rattle.regex_lite_syntax.proofs.class.Class.negate.Goals as goal

pub loop-range-preserved : goal.loop-range-preserved
loop-range-preserved c =
    let items = c.ranges-range-items.result.now in
    let i = c.loop-range.range-index in
    let inside : i < length items = c.loop-range-test.true in
    let none : ClassRange = record { start = 0; end = 0 } in
    let range = get_or items i none in
    let start = start_of c.loop-range.start in
    let known = c.loop-range.invariant in
    let runs = rw (drop_more items i none inside) at known.after in
    let next = start_next c.next_char-start.result range.end c.next_char-start.ensures in
    let above = next_above range.end in
    record {
      before = λ d held.
          let more = in_ranges_more items i d none inside in
          let until : start ≤ range.end = omega (arith, runs.0, runs.3) in
          rw next (before_next start range.start range.end d _ _ until (known.before d) more held);
      after =
          let sooner : next_character range.end ≤ next_character range.end + 1 = omega arith in
          rw next (runs_sooner _ _ (drop (i + 1) items) sooner runs.4);
      runs = c.in_ok-append_between.ensures.runs;
      in_order = λ k gap in_gaps.
          let sooner = c.in_ok-append_between.ensures.in_order k gap in_gaps in
          omega (arith, runs.0, runs.3);
      members = λ d.
          let between = span_before c.loop-range.start c.previous_char.result range.start d
          c.previous_char.ensures in
          let added = rw between at (c.in_ok-append_between.ensures.members d) in
          let step = gap_step start range.start range.end d _ _ _ runs.0 runs.3 (known.before d)
          (known.members d) added in
          rw (next, in_ranges_more items i d none inside) step;
    }

pub returns : goal.returns
returns c = record {
  runs = rw c.of_runs.ensures c.in_ok-append_between-2.ensures.runs;
  members = λ d.
      let items = c.ranges-range-items.result.now in
      let all : take c.loop-range.range-index items ≡ c.args.self.now =
      take_all c.loop-range.range-index items (omega (arith, c.loop-range-test.false))
      ∙ c.ranges-range-items.ensures.same in
      let known = c.loop-range.invariant in
      ap (λ ranges. in_ranges ranges d) c.of_runs.ensures ∙ last_gap c.loop-range.start d _ _ _
      (rw all at (known.before d)) (rw all at (known.members d))
      (c.in_ok-append_between-2.ensures.members d);
}
