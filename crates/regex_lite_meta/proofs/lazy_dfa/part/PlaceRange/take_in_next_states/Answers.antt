use Rattle.regex_lite_meta.proofs.Common.{◌<◌, sym, subst, place_of, All}
use Rattle.regex_lite_engine.specs.Graph.Stored.{LeadsBelow, LeadsInto}
use Rattle.regex_lite_meta.specs.LazyDfa.Parts.{IsInPart}
use Rattle.regex_lite_meta.proofs.lazy_dfa.PartLemmas.{branches_into, entries_below}
use Rattle.regex_lite_meta.proofs.lazy_dfa.part.PlaceRange.take_in_next_states.Goals as goal

pub returns-in-Branches-clause-taken : goal.returns-in-Branches-clause-taken
returns-in-Branches-clause-taken c =
    let new = c.take_in_all.new.self in
    subst (λ place. LeadsInto (IsInPart new) (place_of place)) (sym c.in-Branches.is)
    (branches_into (IsInPart new) c.in-Branches.entries.items
    (subst (All (IsInPart new)) c.deref.ensures.value c.take_in_all.ensures.taken))

pub returns-in-Branches-clause-inside : goal.returns-in-Branches-clause-inside
returns-in-Branches-clause-inside c = λ n within below.
    c.take_in_all.ensures.inside n within
    (subst (All (λ place. place < n)) (sym c.deref.ensures.value)
    (entries_below n c.in-Branches.entries.items
    (subst (λ place. LeadsBelow n (place_of place)) c.in-Branches.is below)))
