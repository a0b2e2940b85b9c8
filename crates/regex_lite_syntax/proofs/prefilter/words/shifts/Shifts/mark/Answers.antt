use Rattle.regex_lite_syntax.proofs.Common.{arith}
use Rattle.regex_lite_syntax.specs.Prefilter.Marks.{numbered_words}
use Rattle.regex_lite_syntax.proofs.prefilter.words.MarkLemmas.{marked_here, marked_over}
use Rattle.regex_lite_syntax.proofs.prefilter.words.MarkLemmas.{marked_past}
use Rattle.regex_lite_syntax.proofs.prefilter.words.shifts.Shifts.mark.Goals as goal

pub returns-then-is_spent-clause-marked : goal.returns-then-is_spent-clause-marked
returns-then-is_spent-clause-marked c = λ before.
    let numbered = numbered_words c.args.numbered.now in
    let (later, none, room) = c.in-Some.ensures.stop numbered.words c.requires.shifts in
    marked_over numbered c.args.bytes.now c.args.from c.stops.at c.stops.marks
    (c.stops.invariant.marked before) c.in-Some.stop none

pub stops-preserved : goal.stops-preserved
stops-preserved c =
    let numbered = numbered_words c.args.numbered.now in
    let v = c.stops.invariant in
    let (later, none, room) = c.in-Some.ensures.stop numbered.words c.requires.shifts in
    let two = c.requires.shifts.two in
    record {
      order = omega (arith, v.order, later);
      inside = omega (arith, room, two);
      room = c.in-Some.ensures.span;
      size = omega (arith, c.mark_at.ensures.length, v.size);
      marked = λ before.
          marked_here numbered c.args.bytes.now c.args.from c.in-Some.stop c.stops.marks
          (marked_over numbered c.args.bytes.now c.args.from c.stops.at c.stops.marks
          (v.marked before) c.in-Some.stop none) c.mark_at.new.marks
          (omega (arith, v.order, later)) c.mark_at.ensures.adds c.mark_at.ensures.here;
    }

pub returns-clause-marked : goal.returns-clause-marked
returns-clause-marked c = λ before.
    let numbered = numbered_words c.args.numbered.now in
    marked_past numbered c.args.bytes.now c.args.from c.stops.at c.stops.marks
    (c.stops.invariant.marked before) (c.in_default.ensures.stop numbered.words c.requires.shifts)
