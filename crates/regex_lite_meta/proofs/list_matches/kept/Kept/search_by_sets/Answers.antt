use Rattle.regex_lite_meta.proofs.Common.{◌^◌, ◌<◌, length, arith, rules, places_of, best_of}
use Rattle.regex_lite_meta.proofs.Common.{position_at, ◌∙◌, ap}
use Rattle.regex_lite_engine.proofs.Common.{is_some, false, IsTrue, subst}
use Rattle.regex_lite_engine.proofs.search.OutcomeLemmas.{can_count}
use Rattle.regex_lite_meta.proofs.list_matches.kept.Kept.search_by_sets.Goals as goal

pub run-requires-clause-counts : goal.run-requires-clause-counts
run-requires-clause-counts c =
    let haystack = c.args.haystack.now in
    let short : length haystack < 2 ^ 63 = search rules in
    can_count (places_of c.pattern-pattern.result.table.now) haystack
    (position_at haystack c.args.start) c.utf8.haystack short
    c.in_ok-cache.ensures.countable 1 (omega arith)

pub returns-clause-reported : goal.returns-clause-reported
returns-clause-reported c =
    let own = c.pattern-pattern.ensures in
    record {
      best = best_of c.run.new.cache.best;
      is = c.reported_by-reported.ensures.found;
      end = rw (own.table, own.entry) at c.run.ensures.found;
      own = rw c.reported_by-reported.ensures.steps
          (rw (own.table, own.entry) at c.run.ensures.own);
      entered = λ reported.
          rw c.reported_by-reported.ensures.steps
          (c.run.ensures.entry (λ none. (
          let is : IsTrue false = subst IsTrue
          (c.reported_by-reported.ensures.found ∙ ap is_some none) reported in
          cc)));
    }
