use Rattle.regex_lite_meta.proofs.Common.{◌≡◌, map, sym, ap, ◌∙◌, subst, arith, place_of}
use Rattle.regex_lite_meta.proofs.Common.{slice_get_within}
use Rattle.regex_lite_engine.specs.Search.Starts.{AreAllStarts}
use Rattle.regex_lite_meta.specs.LazyDfa.Parts.{IsPartOf}
use Rattle.regex_lite_meta.proofs.lazy_dfa.PartLemmas.{part_of, still_in, still_ordered}
use Rattle.regex_lite_meta.proofs.lazy_dfa.part.PlaceRange.of.Goals as goal

pub returns : goal.returns
returns g c =
    let places = c.all.result.now in
    let entries = g.P.Patterns.entries c.args.all.now in
    let starts = g.P.Patterns.starts c.args.all.now in
    let before = c.starts.part in
    let v = c.starts.invariant in
    let part = c.close.new.self in
    let reported = c.close.ensures in
    let same : map place_of places ≡ g.P.Patterns.table c.args.all.now
    = ap (map place_of) c.all.ensures.same ∙ c.table.ensures in
    subst (λ table. IsPartOf table entries part) same
    (part_of places entries starts part (still_ordered before part v.order reported.widens)
    reported.inside reported.closed
    (subst (λ table. AreAllStarts table entries starts) (sym same) c.requires)
    (λ k start at. still_in before part v.order reported.widens start.place (v.taken k start
    (let within = slice_get_within starts k start at in
    omega (arith, within, c.len-patterns.ensures, c.starts-test.false)) at)))
