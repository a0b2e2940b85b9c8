use Rattle.regex_lite.proofs.Common.{Some, ap, IsOutcomeOfList, CompiledList}
use Rattle.regex_lite.proofs.string.ListReportedLemmas.{list_match_reported, list_span_lies}
use Rattle.regex_lite.proofs.string.ListReportedLemmas.{outcome_of_list}
use Rattle.regex_lite.proofs.string.list.RegexList.find_counted_at.Goals as goal
use Rattle.regex_lite.proofs.string.list.RegexList.find_counted_at.Goals.{In-Some}

-- what the search reported
reported : (c : In-Some) → IsOutcomeOfList c.self.invariant.trees c.args.haystack.now c.args.start
    (Some (c.in-Some.number, c.in-Some.outcome))
reported c =
    outcome_of_list c.self.inside.compiled c.self.invariant c.deref.result.now.graph
    (λ trees. IsOutcomeOfList trees c.args.haystack.now c.args.start) c.in_ok-reported.reported
    (c.in-Some.number, c.in-Some.outcome)
    (ap (λ (compiled : CompiledList). compiled.graph) c.deref.ensures)
    c.in_ok-reported.ensures.found c.in-Some.is

pub new-found-requires : goal.new-found-requires
new-found-requires c =
    list_span_lies c.args.haystack.now c.utf8.haystack c.args.start c.args.self.now _
    (rw (← c.self.view_is) c.self.invariant.given) c.in-Some.number _ _
    (reported (goal.at.new-found-requires c).In-Some)

pub returns-clause-found : goal.returns-clause-found
returns-clause-found c =
    list_match_reported c.args.haystack.now c.utf8.haystack c.args.start c.args.self.now
    c.self.invariant.trees (rw (← c.self.view_is) c.self.invariant.given) c.in-Some.number _ _
    (reported (goal.at.returns-clause-found c).In-Some) c.new-found.result
    c.new-found.ensures.haystack c.new-found.ensures.span
