use Rattle.regex_lite_meta.proofs.Common.{◌≡◌, ℕ, ◌-◌, ◌<◌, ◌≤◌, length, slice_get, Some, inl}
use Rattle.regex_lite_meta.proofs.Common.{inr, sym, ap, ◌∙◌, subst, arith, cases_lt, place_of, List}
use Rattle.regex_lite_meta.proofs.Common.{get_or_from_slice_get}
use Rattle.std.proofs.Common.{get_or}
use Rattle.std.proofs.lemmas.Option.{slice_get-get_or}
use Rattle.regex_lite_engine.specs.declared.nfa.place.Place.{Place}
use Rattle.regex_lite_engine.specs.Graph.Stored.{LeadInside, LeadsBelow, LeadsInto}
use Rattle.regex_lite_meta.specs.LazyDfa.Parts.{IsInPart, Widens}
use Rattle.regex_lite_meta.specs.declared.lazy_dfa.part.PlaceRange.{PlaceRange}
use Rattle.regex_lite_meta.proofs.lazy_dfa.PartLemmas.{leads_still, wider_still}
use Rattle.regex_lite_meta.proofs.lazy_dfa.part.PlaceRange.close.Goals as goal

-- one place more, all of whose arrows lead into what has become of the part
module _ (places : List Place) (part wider : PlaceRange) (order : part.low ≤ part.end)
    (widens : Widens part wider) (k : ℕ) (here : Place) (is : here ≡ get_or places k here)
    (into : LeadsInto (IsInPart wider) (place_of here)) where
  here_too : (q : ℕ) (place : Place) → q ≡ k → slice_get places q ≡ Some place
      → LeadsInto (IsInPart wider) (place_of place)
  here_too q place same at =
      subst (λ z. LeadsInto (IsInPart wider) (place_of z))
      (is ∙ get_or_from_slice_get places k place here (ap (slice_get places) (sym same) ∙ at)) into

  there_still : (place : Place) → LeadsInto (IsInPart part) (place_of place)
      → LeadsInto (IsInPart wider) (place_of place)
  there_still place = leads_still part wider order widens (place_of place)

-- its arrows lead to places of the table
below_all : (places : List Place) → LeadInside places → (k : ℕ) (here : Place)
    → here ≡ get_or places k here → k < length places → LeadsBelow (length places) (place_of here)
below_all places closed k here is inside =
    closed k here (slice_get-get_or places k here inside ∙ ap Some (sym is))

pub places-preserved-then-self-low : goal.places-preserved-then-self-low
places-preserved-then-self-low c =
    let places = c.args.places.now in
    let v = c.places.invariant in
    let old = c.places.self in
    let new = c.take_in_next_states.new.self in
    let reported = c.take_in_next_states.ensures in
    let k = c.places.low - 1 in
    let here = c.index-places-low.result in
    let low = reported.widens.0 in
    let end = reported.widens.1 in
    let more = c.if-self-low.true in
    let order : old.low ≤ old.end = omega (arith, v.lower, v.order, v.upper) in
    record {
      order = omega (arith, v.order);
      lower = omega (arith, low, more);
      upper = omega (arith, end, v.upper);
      closed = λ q place above below at. elim (cases_lt q c.places.low) [
        | inl less ↦
            here_too places old new order reported.widens k here c.index-places-low.is
            reported.taken q place (omega (arith, above, less)) at
        | inr le ↦
            there_still places old new order reported.widens k here c.index-places-low.is
            reported.taken place (v.closed q place le below at)
      ];
      widens = wider_still c.args.self.now old new v.widens reported.widens;
      inside = reported.inside (length places) v.inside
          (below_all places c.requires.closed k here c.index-places-low.is
          (omega (arith, more, v.order, v.upper, v.inside)));
    }

pub places-preserved : goal.places-preserved
places-preserved c =
    let places = c.args.places.now in
    let v = c.places.invariant in
    let old = c.places.self in
    let new = c.take_in_next_states-then-end-self.new.self in
    let reported = c.take_in_next_states-then-end-self.ensures in
    let k = c.places.end in
    let here = c.index-places-end.result in
    let low = reported.widens.0 in
    let end = reported.widens.1 in
    let more = c.if-end-self.true in
    let order : old.low ≤ old.end = omega (arith, v.lower, v.order, v.upper) in
    record {
      order = omega (arith, v.order);
      lower = omega (arith, low, v.lower);
      upper = omega (arith, end, more);
      closed = λ q place above below at. elim (cases_lt q k) [
        | inl less ↦
            there_still places old new order reported.widens k here c.index-places-end.is
            reported.taken place (v.closed q place above less at)
        | inr le ↦
            here_too places old new order reported.widens k here c.index-places-end.is
            reported.taken q place (omega (arith, below, le)) at
      ];
      widens = wider_still c.args.self.now old new v.widens reported.widens;
      inside = reported.inside (length places) v.inside
          (below_all places c.requires.closed k here c.index-places-end.is
          (omega (arith, more, v.inside)));
    }
