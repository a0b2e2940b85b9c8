use Rattle.regex_lite.proofs.Common.{Some, ap, OfTree}
use Rattle.regex_lite_engine.specs.Search.Outcomes.{IsOutcome}
use Rattle.regex_lite.proofs.string.ReportedLemmas.{match_reported, outcome_of, span_lies}
use Rattle.regex_lite.proofs.string.regex.Regex.find_counted_at.Goals as goal
use Rattle.regex_lite.proofs.string.regex.Regex.find_counted_at.Goals.{In-Some}

-- what the search reported
reported : (c : In-Some) → OfTree c.args.self.now
    (λ tree. IsOutcome tree c.args.haystack.now c.args.start (Some c.in-Some.outcome))
reported c =
    outcome_of c.args.self.now c.self.inside.compiled c.self.invariant c.deref.result.now.graph
    (λ tree. IsOutcome tree c.args.haystack.now c.args.start) c.in_ok-outcome.outcome
    c.in-Some.outcome (rw (← c.self.view_is) c.self.invariant.given)
    (ap (λ compiled. compiled.graph) c.deref.ensures) c.in_ok-outcome.ensures.found c.in-Some.is

pub new-found-requires : goal.new-found-requires
new-found-requires c =
    span_lies c.args.haystack.now c.utf8.haystack c.args.start c.args.self.now _ _
    (reported (goal.at.new-found-requires c).In-Some)

pub returns-clause-found : goal.returns-clause-found
returns-clause-found c =
    match_reported c.args.haystack.now c.utf8.haystack c.args.start c.args.self.now _ _
    (reported (goal.at.returns-clause-found c).In-Some) c.new-found.result
    c.new-found.ensures.haystack c.new-found.ensures.span
