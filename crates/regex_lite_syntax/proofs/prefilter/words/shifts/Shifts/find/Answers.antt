use Rattle.regex_lite_syntax.proofs.Common.{arith}
use Rattle.regex_lite_syntax.specs.Prefilter.WordLists.{all_words}
use Rattle.regex_lite_syntax.proofs.prefilter.words.ShiftLemmas.{none_on}
use Rattle.regex_lite_syntax.proofs.prefilter.words.NextLemmas.{none_and_here, none_joined}
use Rattle.regex_lite_syntax.proofs.prefilter.words.shifts.Shifts.find.Goals as goal

pub returns-in-Some-first_at : goal.returns-in-Some-first_at
returns-in-Some-first_at c =
    let words = all_words c.args.words.now in
    let v = c.stops.invariant in
    let (later, none, room) = c.in-Some.ensures.stop words c.requires.shifts in (
      omega (arith, v.order, later),
      none_joined words c.args.bytes.now c.args.from c.stops.at c.in-Some.stop v.none none,
      c.in-Some-first_at.ensures,
    )

pub stops-preserved : goal.stops-preserved
stops-preserved c =
    let words = all_words c.args.words.now in
    let bytes = c.args.bytes.now in
    let stop = c.in-Some.stop in
    let v = c.stops.invariant in
    let (later, none, room) = c.in-Some.ensures.stop words c.requires.shifts in
    let two = c.requires.shifts.two in
    record {
      order = omega (arith, v.order, later);
      inside = omega (arith, room, two);
      room = c.in-Some.ensures.span;
      none = none_and_here words bytes c.args.from stop
          (none_joined words bytes c.args.from c.stops.at stop v.none none)
          c.in_default-first_at.ensures;
    }

pub returns : goal.returns
returns c =
    let words = all_words c.args.words.now in
    let v = c.stops.invariant in
    none_on words c.args.bytes.now c.args.from c.stops.at v.none
    (c.in_default.ensures.stop words c.requires.shifts)
