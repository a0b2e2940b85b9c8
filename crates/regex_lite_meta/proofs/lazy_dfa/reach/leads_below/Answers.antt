use Rattle.regex_lite_meta.proofs.Common.{sym, subst, place_of, All}
use Rattle.std.proofs.Common.{◌<◌}
use Rattle.regex_lite_engine.specs.Graph.Stored.{LeadsBelow}
use Rattle.regex_lite_meta.proofs.lazy_dfa.ReachLemmas.{branches_below}
use Rattle.regex_lite_meta.proofs.lazy_dfa.reach.leads_below.Goals as goal

pub returns-in-Branches : goal.returns-in-Branches
returns-in-Branches c = λ reported.
    subst (λ place. LeadsBelow c.args.number (place_of place)) (sym c.in-Branches.is)
    (branches_below c.args.number c.in-Branches.entries.items
    (subst (All (λ entry. entry < c.args.number)) c.deref.ensures.value
    (c.are_below.ensures reported)))
