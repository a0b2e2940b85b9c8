use Rattle.regex_lite_engine.proofs.Common.{◌^◌, ◌<◌, length, chars, refl, arith, rules, arrows_of}
use Rattle.regex_lite_engine.proofs.Common.{length-map, place_of, places_of, position_at}
use Rattle.regex_lite_engine.specs.Search.NumberedOutcomes.{best_at, with_start_kept}
use Rattle.regex_lite_engine.proofs.search.FirstStartLemmas.{answer_from, bounded_from}
use Rattle.regex_lite_engine.proofs.search.FirstStartLemmas.{first_boundary, first_here}
use Rattle.regex_lite_engine.proofs.search.FirstStartLemmas.{none_before_first, none_from}
use Rattle.regex_lite_engine.proofs.search.FirstStartLemmas.{none_tried}
use Rattle.regex_lite_engine.proofs.search.OutcomeLemmas.{can_count, reported_entered}
use Rattle.regex_lite_engine.proofs.search.one_pattern.OnePattern.search_depth_first.Goals as goal

pub walk_for-requires-clause-boundary : goal.walk_for-requires-clause-boundary
walk_for-requires-clause-boundary c =
    let one = c.args.self.now in
    first_boundary (places_of one.table.now) c.args.haystack.now c.utf8.haystack one.entry
    (position_at c.args.haystack.now c.args.start) c.in-Some.first
    (rw c.in-Some.is at c.first_start.ensures.first)

pub walk_for-requires-clause-places : goal.walk_for-requires-clause-places
walk_for-requires-clause-places c =
    let one = c.args.self.now in
    omega (arith, one.inside, length-map one.table.now.places place_of)

pub run-found-requires-clause-here : goal.run-found-requires-clause-here
run-found-requires-clause-here c =
    let one = c.args.self.now in
    first_here (places_of one.table.now) c.args.haystack.now c.utf8.haystack one.entry
    (position_at c.args.haystack.now c.args.start) c.in-Some.first
    (rw c.in-Some.is at c.first_start.ensures.first)

pub run-found-requires-clause-counts : goal.run-found-requires-clause-counts
run-found-requires-clause-counts c =
    let short : length c.args.haystack.now < 2 ^ 63 = search rules in
    can_count (places_of c.args.self.now.table.now) c.args.haystack.now
    (position_at c.args.haystack.now c.in-Some.first.at) c.utf8.haystack short
    c.in_ok-walk.ensures.countable 1 (omega arith)

pub returns-in_default : goal.returns-in_default
returns-in_default c =
    let one = c.args.self.now in
    let text = chars c.args.haystack.now in
    let s = position_at c.args.haystack.now c.args.start in
    let steps = c.no_steps.result in
    let none = c.no_steps.ensures in record {
      found = none_from (places_of one.table.now) text one.entry s
          (c.first_start.ensures.none c.in_default.is);
      slots = tt;
      cost = none_tried (length (places_of one.table.now)) (arrows_of (places_of one.table.now))
          text s steps.tried steps.entered steps.looked none.tried none.entered none.looked;
      entered = tt;
    }

pub returns : goal.returns
returns c =
    let one = c.args.self.now in
    let table = places_of one.table.now in
    let text = chars c.args.haystack.now in
    let s = position_at c.args.haystack.now c.args.start in
    let m = position_at c.args.haystack.now c.in-Some.first.at in
    let steps = c.run-found.new.walk.steps in
    let before = none_before_first table c.args.haystack.now c.utf8.haystack one.entry s
    c.in-Some.first (rw c.in-Some.is at c.first_start.ensures.first) in record {
      found = rw c.outcome_of.ensures.reported
          (answer_from table text one.entry s m before
          (with_start_kept (best_at c.run-found.result c.run-found.new.walk.stack.row))
          c.run-found.ensures.found);
      slots = rw (c.run-found.ensures.width, c.in_ok-walk.ensures.width) at
          c.outcome_of.ensures.slots;
      cost = bounded_from (length table) (arrows_of table) text s m steps.tried steps.entered
          steps.looked before.from c.run-found.ensures.bounded;
      entered = reported_entered _ c.outcome_of.result c.run-found.result
          c.run-found.new.walk.stack.row c.outcome_of.ensures.reported
          (c.run-found.ensures.entry refl);
    }
