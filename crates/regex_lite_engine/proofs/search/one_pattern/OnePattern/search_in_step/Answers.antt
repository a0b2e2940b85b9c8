use Rattle.regex_lite_engine.proofs.Common.{◌^◌, ◌<◌, length, chars, arith, rules, places_of}
use Rattle.regex_lite_engine.proofs.Common.{best_of, length-map, place_of, position_at}
use Rattle.regex_lite_engine.proofs.pikevm.EndLemmas.{one_best}
use Rattle.regex_lite_engine.proofs.search.OutcomeLemmas.{can_count}
use Rattle.regex_lite_engine.proofs.search.one_pattern.OnePattern.search_in_step.Goals as goal

pub cache_for-requires : goal.cache_for-requires
cache_for-requires c =
    let one = c.args.self.now in
    omega (arith, one.inside, length-map one.table.now.places place_of)

pub run-requires-clause-counts : goal.run-requires-clause-counts
run-requires-clause-counts c =
    let haystack = c.args.haystack.now in
    let short : length haystack < 2 ^ 63 = search rules in
    can_count (places_of c.args.self.now.table.now) haystack (position_at haystack c.args.start)
    c.utf8.haystack short c.in_ok-cache.ensures.countable 1 (omega arith)

pub returns : goal.returns
returns c =
    let one = c.args.self.now in
    let haystack = c.args.haystack.now in
    let s = position_at haystack c.args.start in record {
      found = rw c.into_outcome.ensures.reported at
          (one_best (places_of one.table.now) (chars haystack) one.entry s
          (best_of c.run.new.cache.best) c.run.ensures.found);
      slots = search rules;
      cost = c.run.ensures.bounded;
      entered = search rules;
    }
