use Rattle.regex_lite.proofs.Common.{Some, ap, OfTree}
use Rattle.std.specs.Prelude.{not, ◌==◌}
use Rattle.regex_lite_engine.specs.Search.Outcomes.{IsOutcomeAt}
use Rattle.regex_lite.proofs.string.ReportedLemmas.{outcome_of, room_of_whole, slots_are}
use Rattle.regex_lite.proofs.string.WayLemmas.{way_at_reported}
use Rattle.regex_lite.proofs.string.regex.Regex.groups_anchored.Given as given
use Rattle.regex_lite.proofs.string.regex.Regex.groups_anchored.Goals as goal
use Rattle.regex_lite.proofs.string.regex.Regex.groups_anchored.Goals.{In-Some}

-- what the search reported
reported : (g : given.Over) (c : In-Some g) → OfTree c.args.self.now
    (λ tree. IsOutcomeAt (not (g.row.WHOLE == 0)) tree c.args.haystack.now c.args.start
    (Some c.in-Some.outcome))
reported g c =
    outcome_of c.args.self.now c.self.inside.compiled c.self.invariant c.deref.result.now.graph
    (λ tree. IsOutcomeAt (not (g.row.WHOLE == 0)) tree c.args.haystack.now c.args.start)
    c.in_ok-outcome.outcome c.in-Some.outcome (rw (← c.self.view_is) c.self.invariant.given)
    (ap (λ compiled. compiled.graph) c.deref.ensures) c.in_ok-outcome.ensures.found c.in-Some.is

pub captured-requires : goal.captured-requires
captured-requires g c =
    let count = c.kept_slots-count in
    let outcome = c.in_ok-outcome in
    record {
      outcome = way_at_reported (not (g.row.WHOLE == 0)) c.args.haystack.now c.utf8.haystack
          c.args.start c.args.self.now (c.in-Some.outcome.start, c.in-Some.outcome.end)
          c.in-Some.outcome.slots.items (reported g (goal.at.captured-requires g c).In-Some);
      slots = slots_are c.args.self.now outcome.outcome c.in-Some.outcome count.result
          count.ensures outcome.ensures.slots c.in-Some.is;
      whole = room_of_whole outcome.outcome c.in-Some.outcome count.result
          c.in_ok-whole.whole.items outcome.ensures.slots c.in-Some.is c.in_ok-whole.ensures;
    }

pub returns-clause-found : goal.returns-clause-found
returns-clause-found g c =
    let (tree, given, (found, is, tells)) = reported g (goal.at.returns-clause-found g c).In-Some in (
      tree,
      given,
      (
        found,
        is,
        c.in_ok-caps.ensures.found tree found given
            (record { of_way = is.of_way; tells = tells }),
      ),
    )
