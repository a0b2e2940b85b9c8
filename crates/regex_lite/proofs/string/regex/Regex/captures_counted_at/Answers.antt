use Rattle.regex_lite.proofs.Common.{Some, sym, ap, subst, chars, search_start, IsGraphOf, OfTree}
use Rattle.regex_lite_engine.proofs.laws.answer.AnswerAtLemmas.{way_of_found}
use Rattle.regex_lite_engine.specs.Search.Outcomes.{IsOutcome}
use Rattle.regex_lite.proofs.string.ReportedLemmas.{outcome_of, room_of_whole, slots_are}
use Rattle.regex_lite.proofs.string.ReportedLemmas.{way_reported}
use Rattle.regex_lite.proofs.string.regex.Regex.captures_counted_at.Goals as goal
use Rattle.regex_lite.proofs.string.regex.Regex.captures_counted_at.Goals.{In-Some}

-- what the search reported
reported : (c : In-Some) → OfTree c.args.self.now
    (λ tree. IsOutcome tree c.args.haystack.now c.args.start (Some c.in-Some.outcome))
reported c =
    outcome_of c.args.self.now c.self.inside.compiled c.self.invariant c.deref.result.now.graph
    (λ tree. IsOutcome tree c.args.haystack.now c.args.start) c.in_ok-outcome.outcome
    c.in-Some.outcome (rw (← c.self.view_is) c.self.invariant.given)
    (ap (λ compiled. compiled.graph) c.deref.ensures) c.in_ok-outcome.ensures.found c.in-Some.is

pub captured-requires : goal.captured-requires
captured-requires c =
    let count = c.kept_slots-count in
    let outcome = c.in_ok-outcome in
    record {
      outcome = way_reported c.args.haystack.now c.utf8.haystack c.args.start c.args.self.now
          (c.in-Some.outcome.start, c.in-Some.outcome.end) c.in-Some.outcome.slots.items
          (reported (goal.at.captured-requires c).In-Some);
      slots = slots_are c.args.self.now outcome.outcome c.in-Some.outcome count.result
          count.ensures outcome.ensures.slots c.in-Some.is;
      whole = room_of_whole outcome.outcome c.in-Some.outcome count.result
          c.in_ok-whole.whole.items outcome.ensures.slots c.in-Some.is c.in_ok-whole.ensures;
    }

pub returns-clause-found : goal.returns-clause-found
returns-clause-found c =
    let (tree, given, (found, is, tells)) = reported (goal.at.returns-clause-found c).In-Some in (
      tree,
      given,
      (
        found,
        is,
        c.in_ok-caps.ensures.found tree found given (record {
          of_way = way_of_found tree (chars c.args.haystack.now)
              (search_start c.args.haystack.now c.args.start) found is;
          tells = tells;
        }),
      ),
    )

pub returns-clause-of_match : goal.returns-clause-of_match
returns-clause-of_match c = record {
  haystack = c.args.haystack.now;
  start = c.args.start;
  reported = returns-clause-found c;
}

pub returns-clause-cost : goal.returns-clause-cost
returns-clause-cost c =
    let built = c.self.invariant in
    let graph = ap (λ compiled. compiled.graph) c.deref.ensures in (
      built.tree,
      rw (← c.self.view_is) built.given,
      c.in_ok-outcome.ensures.cost built.tree
          (subst (IsGraphOf built.tree) (sym graph) built.graph),
    )
