use Rattle.regex_lite_engine.proofs.Common.{◌≡◌, sym, subst, arith, stack_bound, place_of}
use Rattle.regex_lite_engine.proofs.nfa.stack_bound.SumLemmas.{kept_at_branches}
use Rattle.regex_lite_engine.proofs.nfa.place.Place.stack_bound.Goals as goal

pub returns-in-Branches : goal.returns-in-Branches
returns-in-Branches c =
    let len = c.len.ensures in
    let less = c.saturating_sub.ensures in
    subst (λ z. c.saturating_sub.result ≡ stack_bound (place_of z)) (sym c.in-Branches.is)
    (omega (arith, len, less, kept_at_branches c.in-Branches.entries.items))
