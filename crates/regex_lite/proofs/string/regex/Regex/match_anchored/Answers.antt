use Rattle.regex_lite.proofs.Common.{Some, ap, OfTree}
use Rattle.std.specs.Prelude.{not, ◌==◌}
use Rattle.regex_lite_engine.specs.Search.Outcomes.{IsOutcomeAt}
use Rattle.regex_lite.proofs.string.ReportedLemmas.{outcome_of}
use Rattle.regex_lite.proofs.string.WayLemmas.{match_at_reported, span_at_lies}
use Rattle.regex_lite.proofs.string.regex.Regex.match_anchored.Given as given
use Rattle.regex_lite.proofs.string.regex.Regex.match_anchored.Goals as goal
use Rattle.regex_lite.proofs.string.regex.Regex.match_anchored.Goals.{In-Some}

-- what the search reported
reported : (g : given.Over) (c : In-Some g) → OfTree c.args.self.now
    (λ tree. IsOutcomeAt (not (g.row.WHOLE == 0)) tree c.args.haystack.now c.args.start
    (Some c.in-Some.outcome))
reported g c =
    outcome_of c.args.self.now c.self.inside.compiled c.self.invariant c.deref.result.now.graph
    (λ tree. IsOutcomeAt (not (g.row.WHOLE == 0)) tree c.args.haystack.now c.args.start)
    c.in_ok-outcome.outcome c.in-Some.outcome (rw (← c.self.view_is) c.self.invariant.given)
    (ap (λ compiled. compiled.graph) c.deref.ensures) c.in_ok-outcome.ensures.found c.in-Some.is

pub new-found-requires : goal.new-found-requires
new-found-requires g c =
    span_at_lies (not (g.row.WHOLE == 0)) c.args.haystack.now c.utf8.haystack c.args.start
    c.args.self.now _ _ (reported g (goal.at.new-found-requires g c).In-Some)

pub returns-clause-found : goal.returns-clause-found
returns-clause-found g c =
    match_at_reported (not (g.row.WHOLE == 0)) c.args.haystack.now c.utf8.haystack c.args.start
    c.args.self.now _ _ (reported g (goal.at.returns-clause-found g c).In-Some) c.new-found.result
    c.new-found.ensures.haystack c.new-found.ensures.span
