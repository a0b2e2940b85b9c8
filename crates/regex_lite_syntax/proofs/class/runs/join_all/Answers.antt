use Rattle.regex_lite_syntax.proofs.Common.{◌+◌, ◌≤◌, ap, ◌∙◌, arith, span, ClassRange}
use Rattle.std.proofs.lemmas.List.{get_or_default}
use Rattle.regex_lite_syntax.proofs.RangeLemmas.{in_ranges_more}
use Rattle.regex_lite_syntax.proofs.class.JoinedRangeLemmas.{same_later, same_there}
use Rattle.regex_lite_syntax.proofs.class.runs.join_all.Goals as goal

pub join-runs-requires-clause-in_order : goal.join-runs-requires-clause-in_order
join-runs-requires-clause-in_order c =
    let none : ClassRange = record { start = 0; end = 0 } in
    let at = c.loop-at.at in
    let same = same_there c.loop-at.ranges c.args.ranges.now at none c.loop-at.invariant.rest in
    rw same (c.loop-at.invariant.in_order at none (omega arith) c.loop-at-test.true)

pub loop-at-preserved : goal.loop-at-preserved
loop-at-preserved c =
    let sorted = c.args.ranges.now in
    let none : ClassRange = record { start = 0; end = 0 } in
    let start = λ (r : ClassRange). r.start in
    let at = c.loop-at.at in
    let known = c.loop-at.invariant in
    let same = same_there c.loop-at.ranges sorted at none known.rest in
    let joined = c.join-runs.ensures in
    let further : c.loop-at.runs + 1 ≤ at + 1 = omega (arith, known.inside) in
    record {
      inside = omega (arith, known.inside, joined.inside);
      runs = joined.runs;
      in_order = λ k d after below j run held.
          let later = c.requires at k none (omega (arith, after)) below in
          let there = ap start (get_or_default sorted k none d below) in
          omega (arith, joined.in_order j run held, later, there, ap start same);
      members = λ d.
          let more = in_ranges_more sorted at d none c.loop-at-test.true in
          let added = joined.members d in
          let before = known.members d in
          let range = ap (λ (r : ClassRange). span r.start r.end d) same in
          cc;
      rest = same_later _ _ _ _ further joined.rest
          ∙ same_later _ _ at (at + 1) (omega arith) known.rest;
    }
