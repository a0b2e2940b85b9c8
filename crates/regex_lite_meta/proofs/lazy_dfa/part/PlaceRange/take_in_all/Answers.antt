use Rattle.regex_lite_meta.proofs.Common.{◌≡◌, ◌≤◌, inl, inr, sym, subst, arith, cases_lt}
use Rattle.regex_lite_meta.proofs.Common.{slice_index_or}
use Rattle.std.proofs.lemmas.List.{get_or_default}
use Rattle.regex_lite_meta.specs.LazyDfa.Parts.{IsInPart}
use Rattle.regex_lite_meta.proofs.lazy_dfa.PartLemmas.{still_in, still_ordered, wider_still}
use Rattle.regex_lite_meta.proofs.lazy_dfa.part.PlaceRange.take_in_all.Goals as goal

pub take_in-requires : goal.take_in-requires
take_in-requires c = record {
  order = still_ordered c.args.self.now c.places.self c.requires.order c.places.invariant.widens;
}

pub places-preserved : goal.places-preserved
places-preserved c =
    let v = c.places.invariant in
    let old = c.places.self in
    let new = c.take_in.new.self in
    let reported = c.take_in.ensures in
    let order : old.low ≤ old.end = still_ordered c.args.self.now old c.requires.order v.widens in
    record {
      taken = λ j d less. elim (cases_lt j c.places.k) [
        | inl before ↦ still_in old new order reported.widens _ (v.taken j d before)
        | inr le ↦
            let here : j ≡ c.places.k = omega (arith, less, le) in
            subst (λ n. IsInPart new (slice_index_or c.args.places.now n d)) (sym here)
            (subst (IsInPart new)
            (get_or_default c.args.places.now c.places.k 0 d c.places-test.true) reported.taken)
      ];
      widens = wider_still c.args.self.now old new v.widens reported.widens;
      inside = λ n within all.
          reported.inside n (v.inside n within all) (all c.places.k 0 c.places-test.true);
    }
