use Rattle.regex_lite_meta.proofs.Common.{◌-◌, map, subst, arith, place_of}
use Rattle.regex_lite_engine.specs.Graph.Stored.{LeadsBelow}
use Rattle.regex_lite_meta.proofs.lazy_dfa.PartLemmas.{stored_at}
use Rattle.regex_lite_meta.proofs.lazy_dfa.ReachLemmas.{reads_at_most}
use Rattle.regex_lite_meta.proofs.lazy_dfa.reach.reach_for.Goals as goal

pub returns-then-lead_down : goal.returns-then-lead_down
returns-then-lead_down c = λ entries is h number entry i way r j at leads.
    let places = c.args.places.now in
    let part = c.args.part in
    let most = reads_at_most (map place_of places) entries part.low (part.end - part.low) is.own
    (λ q place within there. (
    let (own, stored, same) = stored_at places q place there in
    subst (LeadsBelow q) same
    (c.lead_down.ensures c.if-lead_down.true q own within stored)))
    h number entry i way r j at leads in
    omega (arith, most, c.requires.reading)
