use Rattle.regex_lite_engine.proofs.Common.{◌≡◌, ℕ, ◌*◌, ◌^◌, ◌<◌, ◌≤◌, length, sum_by}
use Rattle.regex_lite_engine.proofs.Common.{sym, subst, arith, rules, stack_bound_with, places_of}
use Rattle.regex_lite_engine.proofs.Common.{position_at}
use Rattle.regex_lite_engine.specs.Backtrack.Searching.{IsFresh}
use Rattle.regex_lite_engine.proofs.search.OutcomeLemmas.{can_count}
use Rattle.regex_lite_engine.proofs.backtrack.short.ShortSearcher.search.Goals as goal

pub run-requires-clause-counts : goal.run-requires-clause-counts
run-requires-clause-counts c =
    let haystack = c.args.haystack.now in
    let short : length haystack < 2 ^ 63 = search rules in
    can_count (places_of c.args.pattern.now.table.now) haystack
    (position_at haystack c.at.result.at) c.utf8.haystack short c.requires.searches.countable 1
    (omega arith)

pub run-requires-clause-fresh : goal.run-requires-clause-fresh
run-requires-clause-fresh c =
    subst (λ (z : ℕ). IsFresh (places_of c.args.pattern.now.table.now) c.args.haystack.now z
    c.restart.new.self.walk) (sym c.at.ensures.at) c.restart.ensures.fresh

pub returns-clause-searches : goal.returns-clause-searches
returns-clause-searches c =
    let table = places_of c.args.pattern.now.table.now in
    let between = c.restart.new.self in
    let ready = c.restart.ensures.searches in
    let width : length c.run.new.walk.stack.row ≡ length between.walk.stack.row
    = c.run.ensures.width in
    record {
      room = subst (λ (z : ℕ). sum_by (stack_bound_with z) table * between.offsets
          ≤ c.run.new.walk.stack.room) (sym width)
          (omega (arith, c.run.ensures.room, ready.room));
      pairs = omega (arith, c.run.ensures.pairs, ready.pairs);
      countable = ready.countable;
    }
