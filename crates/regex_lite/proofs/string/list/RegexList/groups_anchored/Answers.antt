use Rattle.regex_lite.proofs.Common.{Some, ap, AreTrees, CompiledList}
use Rattle.std.specs.Prelude.{not, ◌==◌}
use Rattle.regex_lite_engine.specs.Search.Outcomes.{IsOutcomeAtOfList}
use Rattle.regex_lite.proofs.string.ListSlotLemmas.{room_kept, room_whole}
use Rattle.regex_lite.proofs.string.ListReportedLemmas.{outcome_of_list}
use Rattle.regex_lite.proofs.string.WayLemmas.{listed_way_at_reported}
use Rattle.regex_lite.proofs.string.list.RegexList.groups_anchored.Given as given
use Rattle.regex_lite.proofs.string.list.RegexList.groups_anchored.Goals as goal
use Rattle.regex_lite.proofs.string.list.RegexList.groups_anchored.Goals.{In-Some}

-- what the search reported
reported : (g : given.Over) (c : In-Some g) → IsOutcomeAtOfList (not (g.row.WHOLE == 0))
    c.self.invariant.trees c.args.haystack.now c.args.start (Some c.in-Some.found)
reported g c =
    outcome_of_list c.self.inside.compiled c.self.invariant c.deref.result.now.graph
    (λ trees. IsOutcomeAtOfList (not (g.row.WHOLE == 0)) trees c.args.haystack.now c.args.start)
    c.in_ok-reported.reported c.in-Some.found
    (ap (λ (compiled : CompiledList). compiled.graph) c.deref.ensures)
    c.in_ok-reported.ensures.found c.in-Some.is

pub captured-requires : goal.captured-requires
captured-requires g c =
    let own = c.in_ok-reported in
    let count = c.kept_slots-count in
    record {
      found = listed_way_at_reported (not (g.row.WHOLE == 0)) c.args.haystack.now c.utf8.haystack
          c.args.start c.args.self.now c.self.invariant.trees
          (rw (← c.self.view_is) c.self.invariant.given) c.in-Some.found.0 _ _
          (reported g (goal.at.captured-requires g c).In-Some);
      slots = rw c.in-Some.is at
          (room_kept count.result c.args.self.now own.reported own.ensures.slots count.ensures);
      whole = rw c.in-Some.is at
          (room_whole count.result c.in_ok-whole.whole.items own.reported own.ensures.slots
          c.in_ok-whole.ensures);
    }

pub returns-clause-found : goal.returns-clause-found
returns-clause-found g c =
    let (found, answer, tells) = reported g (goal.at.returns-clause-found g c).In-Some in
    let given : AreTrees c.args.self.now c.self.invariant.trees =
    rw (← c.self.view_is) c.self.invariant.given in
    let caps = c.in_ok-caps.ensures.found c.self.invariant.trees answer.tree found given
    answer.numbered (record { of_way = answer.answer.of_way; tells = tells }) in (
      c.self.invariant.trees,
      given,
      (
        (c.in-Some.found.0, found),
        answer,
        record {
          number = caps.0;
          tree = answer.tree;
          numbered = answer.numbered;
          value = caps.1;
        },
      ),
    )
