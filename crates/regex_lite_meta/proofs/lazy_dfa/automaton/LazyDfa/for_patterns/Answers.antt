use Rattle.regex_lite_meta.proofs.Common.{◌≡◌, ◌-◌, ◌≤◌, map, sym, refl, ap, ◌∙◌, subst, IfSome}
use Rattle.regex_lite_meta.proofs.Common.{place_of}
use Rattle.regex_lite_engine.specs.Graph.Places.{reading_of}
use Rattle.regex_lite_meta.specs.LazyDfa.Automaton.{ReadsAtMost}
use Rattle.regex_lite_meta.specs.LazyDfa.Intervals.{AreIntervalsFor}
use Rattle.regex_lite_meta.specs.LazyDfa.Parts.{IsPartOf}
use Rattle.regex_lite_meta.specs.LazyDfa.Spans.{IsDfaFor}
use Rattle.regex_lite_meta.proofs.lazy_dfa.BuildLemmas.{intervals_for, is_dfa_none}
use Rattle.regex_lite_meta.proofs.lazy_dfa.PartLemmas.{row_stored}
use Rattle.regex_lite_meta.proofs.lazy_dfa.automaton.LazyDfa.for_patterns.Goals as goal

pub reach_for-reach-requires-clause-reading : goal.reach_for-reach-requires-clause-reading
reach_for-reach-requires-clause-reading g c =
    let part = c.in_ok-part.part in
    subst (λ row. reading_of row ≤ c.reading_in-reading.result)
    (row_stored c.all-places.result.now part.low (part.end - part.low))
    c.reading_in-reading.ensures

pub returns-in-Ok : goal.returns-in-Ok
returns-in-Ok g c =
    let places = c.all-places.result.now in
    let table = map place_of places in
    let entries = g.P.Patterns.entries c.args.all.now in
    let part = c.in_ok-part.part in
    let made = c.in-Ok.made in
    let same : table ≡ g.P.Patterns.table c.args.all.now
    = ap (map place_of) c.all-places.ensures.same ∙ c.table.ensures in
    let is : IsPartOf table entries part =
    subst (λ t. IsPartOf t entries part) (sym same) c.in_ok-part.ensures in
    subst (λ t. IsDfaFor t entries made) same
    (is_dfa_none table entries made
    (subst (AreIntervalsFor table entries) (sym c.in-Ok.ensures.intervals)
    (intervals_for places entries part is _ refl c.in_ok-classes.classes c.in_ok-classes.ensures))
    (subst (λ reach. IfSome reach (ReadsAtMost table entries)) (sym c.in-Ok.ensures.reach)
    (c.reach_for-reach.ensures entries is)) c.in-Ok.ensures.states c.in-Ok.ensures.pending)
