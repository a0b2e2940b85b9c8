use Rattle.regex_lite.proofs.Common.{Some, chars, sym, ap, subst, IsGraphOfList, IsOutcomeOfList}
use Rattle.regex_lite.proofs.Common.{CompiledList}
use Rattle.regex_lite.specs.Scanning.{TellsOutcomeOfList}
use Rattle.regex_lite.proofs.string.ListSlotLemmas.{room_kept, room_whole}
use Rattle.regex_lite.proofs.string.ListReportedLemmas.{listed_way_reported, outcome_of_list}
use Rattle.regex_lite.proofs.string.ListGroupLemmas.{groups_of_listed, listed_of_pattern}
use Rattle.regex_lite_engine.proofs.laws.answer.AnswerAtLemmas.{way_of_found}
use Rattle.regex_lite.proofs.string.list.RegexList.captures_at.Goals as goal
use Rattle.regex_lite.proofs.string.list.RegexList.captures_at.Goals.{In-Some}

-- what the search reported
reported : (c : In-Some)
    → TellsOutcomeOfList c.args.self.now c.args.haystack.now c.args.start (Some c.in-Some.found)
reported c = (
  c.self.invariant.trees,
  rw (← c.self.view_is) c.self.invariant.given,
  outcome_of_list c.self.inside.compiled c.self.invariant c.deref.result.now.graph
      (λ trees. IsOutcomeOfList trees c.args.haystack.now c.args.start) c.in_ok-reported.reported
      c.in-Some.found (ap (λ (compiled : CompiledList). compiled.graph) c.deref.ensures)
      c.in_ok-reported.ensures.found c.in-Some.is,
)

pub captured-requires : goal.captured-requires
captured-requires c =
    let own = c.in_ok-reported in
    let count = c.kept_slots-count in
    record {
      found = (
          let own = reported (goal.at.captured-requires c).In-Some in
          listed_way_reported c.args.haystack.now c.utf8.haystack c.args.start c.args.self.now own.0
          own.1
          c.in-Some.found.0 _ _ own.2);
      slots = rw c.in-Some.is at
          (room_kept count.result c.args.self.now own.reported own.ensures.slots count.ensures);
      whole = rw c.in-Some.is at
          (room_whole count.result c.in_ok-whole.whole.items own.reported own.ensures.slots
          c.in_ok-whole.ensures);
    }

pub returns-clause-found : goal.returns-clause-found
returns-clause-found c =
    let own = reported (goal.at.returns-clause-found c).In-Some in
    let haystack = c.args.haystack.now in
    let answer = own.2.1 in
    let caps = c.in_ok-caps.ensures.found own.0 answer.tree own.2.0 own.1 answer.numbered
    (record {
      of_way = way_of_found answer.tree (chars haystack) own.2.0.start own.2.0 answer.answer;
      tells = own.2.2;
    }) in
    groups_of_listed c.args.self.now haystack c.args.start own.0 c.in-Some.found.0 _ _ own.1 own.2
    c.in_ok-caps.caps caps.0 caps.1

pub returns-clause-of_match : goal.returns-clause-of_match
returns-clause-of_match c =
    listed_of_pattern c.args.haystack.now c.args.start c.args.self.now c.in_ok-caps.caps.0
    c.in_ok-caps.caps.1 (returns-clause-found c)

pub returns-in_default-clause-found : goal.returns-in_default-clause-found
returns-in_default-clause-found c =
    let built = c.self.invariant in
    let graph = ap (λ (compiled : CompiledList). compiled.graph) c.deref.ensures in (
      built.trees,
      rw (← c.self.view_is) built.given,
      subst (IsOutcomeOfList built.trees c.args.haystack.now c.args.start) c.in_default.is
          (c.in_ok-reported.ensures.found built.trees built.regular
          (subst (IsGraphOfList built.trees) (sym graph) built.graph)),
    )
