use Rattle.regex_lite.proofs.Common.{Some, ap, CompiledList}
use Rattle.std.specs.Prelude.{not, ◌==◌}
use Rattle.regex_lite_engine.specs.Search.Outcomes.{IsOutcomeAtOfList}
use Rattle.regex_lite.proofs.string.ListReportedLemmas.{outcome_of_list}
use Rattle.regex_lite.proofs.string.WayLemmas.{list_match_at_reported, list_span_at_lies}
use Rattle.regex_lite.proofs.string.list.RegexList.match_anchored.Given as given
use Rattle.regex_lite.proofs.string.list.RegexList.match_anchored.Goals as goal
use Rattle.regex_lite.proofs.string.list.RegexList.match_anchored.Goals.{In-Some}

-- what the search reported
reported : (g : given.Over) (c : In-Some g) → IsOutcomeAtOfList (not (g.row.WHOLE == 0))
    c.self.invariant.trees c.args.haystack.now c.args.start
    (Some (c.in-Some.number, c.in-Some.outcome))
reported g c =
    outcome_of_list c.self.inside.compiled c.self.invariant c.deref.result.now.graph
    (λ trees. IsOutcomeAtOfList (not (g.row.WHOLE == 0)) trees c.args.haystack.now c.args.start)
    c.in_ok-reported.reported (c.in-Some.number, c.in-Some.outcome)
    (ap (λ (compiled : CompiledList). compiled.graph) c.deref.ensures)
    c.in_ok-reported.ensures.found c.in-Some.is

pub new-found-requires : goal.new-found-requires
new-found-requires g c =
    list_span_at_lies (not (g.row.WHOLE == 0)) c.args.haystack.now c.utf8.haystack c.args.start
    c.args.self.now _ (rw (← c.self.view_is) c.self.invariant.given) c.in-Some.number _ _
    (reported g (goal.at.new-found-requires g c).In-Some)

pub returns-clause-found : goal.returns-clause-found
returns-clause-found g c =
    list_match_at_reported (not (g.row.WHOLE == 0)) c.args.haystack.now c.utf8.haystack c.args.start
    c.args.self.now c.self.invariant.trees (rw (← c.self.view_is) c.self.invariant.given)
    c.in-Some.number _ _ (reported g (goal.at.returns-clause-found g c).In-Some) c.new-found.result
    c.new-found.ensures.haystack c.new-found.ensures.span
