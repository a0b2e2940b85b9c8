use Rattle.regex_lite_meta.proofs.Common.{◌^◌, ◌<◌, length, chars, arith, rules}
use Rattle.regex_lite_meta.proofs.Common.{places_of, best_of, position_at, arrows_of}
use Rattle.regex_lite_engine.proofs.search.FirstStartLemmas.{bounded_from, first_boundary}
use Rattle.regex_lite_engine.proofs.search.FirstStartLemmas.{none_before_first, none_tried}
use Rattle.regex_lite_engine.proofs.search.OutcomeLemmas.{can_count}
use Rattle.regex_lite_meta.proofs.EndLemmas.{end_from_later, end_reported, none_reported}
use Rattle.regex_lite_engine.specs.Search.OutcomeOfOne.{TellsEndOfOne}
use Rattle.std.proofs.lemmas.Result.{IfOk-weaker}
use Rattle.regex_lite_meta.proofs.one.search_shortest_in_graph.Goals as goal

pub run-requires : goal.run-requires
run-requires c =
    let one = c.args.pattern.now in
    let haystack = c.args.haystack.now in record {
      counts =
          let short : length haystack < 2 ^ 63 = search rules in
          can_count (places_of one.table.now) haystack
          (position_at haystack c.in-Some-first_start.first.at)
          c.utf8.haystack short c.in_ok-cache.ensures.countable 1 (omega arith);
      fresh = c.in_ok-cache.ensures.fresh;
      boundary = first_boundary (places_of one.table.now) haystack c.utf8.haystack one.entry
          (position_at haystack c.args.start) c.in-Some-first_start.first
          (rw c.in-Some-first_start.is at c.first_start.ensures.first);
    }

pub returns : goal.returns
returns c =
    let one = c.args.pattern.now in
    let table = places_of one.table.now in
    let haystack = c.args.haystack.now in
    let s = position_at haystack c.args.start in
    let m = position_at haystack c.in-Some-first_start.first.at in
    let steps = c.run.new.cache.walk.steps in
    let passes = rw c.in-Some-first_start.is at c.first_start.ensures.first in
    let before = none_before_first table haystack c.utf8.haystack one.entry s
    c.in-Some-first_start.first passes
    in record {
      found = rw c.end.ensures
          (end_reported table haystack one.entry c.args.start c.utf8.haystack
          c.in-Some-first_start.first passes
          (best_of c.run.new.cache.best) c.run.ensures.found);
      cost = bounded_from (length table) (arrows_of table) (chars haystack) s m steps.tried
          steps.entered steps.looked before.from c.run.ensures.bounded;
      entered = search rules;
    }

pub returns-in_default-first_start : goal.returns-in_default-first_start
returns-in_default-first_start c =
    let one = c.args.pattern.now in
    let table = places_of one.table.now in
    let haystack = c.args.haystack.now in
    let steps = c.no_steps-in_default-first_start.result in
    let none = c.no_steps-in_default-first_start.ensures in record {
      found = none_reported table haystack one.entry c.args.start
          (c.first_start.ensures.none c.in_default-first_start.is);
      cost = none_tried (length table) (arrows_of table) (chars haystack)
          (position_at haystack c.args.start) steps.tried steps.entered steps.looked none.tried
          none.entered none.looked;
      entered = tt;
    }

pub returns-in_default-search_start : goal.returns-in_default-search_start
returns-in_default-search_start c =
    let one = c.args.pattern.now in
    let table = places_of one.table.now in
    let haystack = c.args.haystack.now in
    let steps = c.no_steps.result in
    let none = c.no_steps.ensures in record {
      found = none_reported table haystack one.entry c.args.start
          (c.search_start.ensures.none c.in_default-search_start.is);
      cost = none_tried (length table) (arrows_of table) (chars haystack)
          (position_at haystack c.args.start) steps.tried steps.entered steps.looked none.tried
          none.entered none.looked;
      entered = tt;
    }

pub returns-in-LazyDfa : goal.returns-in-LazyDfa
returns-in-LazyDfa c =
    let one = c.args.pattern.now in
    let table = places_of one.table.now in
    let haystack = c.args.haystack.now in
    IfOk-weaker c.search_shortest_by_dfa.result
    (TellsEndOfOne table one.entry haystack c.in-Some.first)
    (TellsEndOfOne table one.entry haystack c.args.start)
    (λ reported. end_from_later table haystack one.entry c.args.start c.in-Some.first reported
    c.in-Some.ensures.least) c.search_shortest_by_dfa.ensures
