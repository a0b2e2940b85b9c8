-- Places in a row that no arrow leaves.
use Rattle.regex_lite_meta.proofs.Common.{◌≡◌, ℕ, zero, suc, ◌+◌, ◌<◌, ◌≤◌, List, [], ◌∷◌, map, All}
use Rattle.regex_lite_meta.proofs.Common.{length, take, drop, slice_get, option_map, Some, None}
use Rattle.regex_lite_meta.proofs.Common.{Option, sym, refl, ap, ◌∙◌, subst, inl, inr, arith}
use Rattle.regex_lite_meta.proofs.Common.{place_of, length-map}
use Rattle.std.proofs.lemmas.Option.{slice_get-map}
use Rattle.regex_lite_engine.specs.declared.nfa.place.Place as code
use Rattle.regex_lite_engine.specs.declared.search.patterns.Start.{Start}
use Rattle.regex_lite_engine.specs.Graph.Parts.{row_of}
use Rattle.regex_lite_engine.specs.Graph.Places.{Arrow, Place, complete, go, one_of, with_arrows}
use Rattle.regex_lite_engine.specs.Graph.Stored.{LeadBelow, LeadInto, LeadsBelow, LeadsInto}
use Rattle.regex_lite_engine.specs.Search.Starts.{AreAllStarts, IsAmong}
use Rattle.regex_lite_meta.specs.LazyDfa.Parts.{IsInPart, IsPartOf, LeadWithin, Widens}
use Rattle.regex_lite_meta.specs.declared.lazy_dfa.part.PlaceRange.{PlaceRange}
use Rattle.regex_lite_syntax.specs.declared.class.ClassRange.{ClassRange}
use Rattle.regex_lite_syntax.proofs.OptionLemmas.{not_there, same_some}

-- a part that is wider has all that it had
pub still_in : (before after : PlaceRange) → before.low ≤ before.end → Widens before after → (q : ℕ)
    → IsInPart before q → IsInPart after q
still_in before after order wide q (above, below) =
    let low = wide.0 in let end = wide.1 in
    (omega (arith, low, above), omega (arith, low, end, above, below, order))

pub still_ordered : (before after : PlaceRange) → before.low ≤ before.end → Widens before after
    → after.low ≤ after.end
still_ordered before after order wide =
    let low = wide.0 in let end = wide.1 in omega (arith, low, end, order)

pub wider_still : (first before after : PlaceRange) → Widens first before → Widens before after
    → Widens first after
wider_still first before after one more =
    let low = one.0 in let end = one.1 in let more_low = more.0 in let more_end = more.1 in
    (omega (arith, low, more_low), omega (arith, end, more_end))

module _ (before after : PlaceRange) (order : before.low ≤ before.end) (wide : Widens before after)
  where
    lead_still : (arrows : List (Arrow ℕ)) → LeadInto (IsInPart before) arrows
        → LeadInto (IsInPart after) arrows
    lead_still [] into = tt
    lead_still (arrow ∷ arrows) into =
        (still_in before after order wide arrow.to into.0, lead_still arrows into.1)

    -- arrows that lead into a part lead into a wider one
    pub leads_still : (place : Place ℕ) → LeadsInto (IsInPart before) place
        → LeadsInto (IsInPart after) place
    leads_still complete into = tt
    leads_still (with_arrows arrows) into = lead_still arrows into

    pub all_still : (places : List ℕ) → All (IsInPart before) places → All (IsInPart after) places
    all_still places all k d less = still_in before after order wide _ (all k d less)

-- a place of a set has one arrow, unless the set is empty
pub one_of_into : (In : ℕ → Type 0) (set : List ClassRange) (to : ℕ) → In to
    → LeadsInto In (one_of set to)
one_of_into In [] to is = tt
one_of_into In (range ∷ ranges) to is = (is, tt)

pub one_of_none : (In : ℕ → Type 0) (set : List ClassRange) (to : ℕ) → length set ≡ 0
    → LeadsInto In (one_of set to)
one_of_none In [] to none = tt
one_of_none In (range ∷ ranges) to none = absurd (omega (arith, none))

pub one_of_less : (n : ℕ) (set : List ClassRange) (to : ℕ) → (length set ≡ 0 → ⊥)
    → LeadsBelow n (one_of set to) → to < n
one_of_less n [] to some below = absurd (some refl)
one_of_less n (range ∷ ranges) to some below = below.0

-- the arrows of branches lead where they are entered
pub branches_into : (In : ℕ → Type 0) (entries : List ℕ) → All In entries
    → LeadInto In (map go entries)
branches_into In [] all = tt
branches_into In (entry ∷ entries) all = (
  all 0 entry (omega arith),
  branches_into In entries (λ k d lt. all (suc k) d (omega (arith, lt))),
)

pub entries_below : (n : ℕ) (entries : List ℕ) → LeadBelow n (map go entries)
    → All (λ entry. entry < n) entries
entries_below n [] below k d less = absurd (omega (arith, less))
entries_below n (entry ∷ entries) below zero d less = below.0
entries_below n (entry ∷ entries) below (suc k) d less =
    entries_below n entries below.1 k d (omega (arith, less))

-- the places of a table in a row are the stored ones in a row
pub row_stored : (places : List code.Place) (low len : ℕ)
    → map place_of (take len (drop low places)) ≡ row_of (map place_of places) low len
row_stored [] zero zero = refl
row_stored [] zero (suc len) = refl
row_stored [] (suc low) zero = refl
row_stored [] (suc low) (suc len) = refl
row_stored (place ∷ places) zero zero = refl
row_stored (place ∷ places) zero (suc len) =
    ap (λ row. place_of place ∷ row) (row_stored places zero len)
row_stored (place ∷ places) (suc low) len = row_stored places low len

-- which are found there by their numbers
pub in_row : {A : Type 0} (places : List A) (low len k q : ℕ) → low + k ≡ q → k < len
    → slice_get (take len (drop low places)) k ≡ slice_get places q
in_row [] zero zero k q e less = refl
in_row [] zero (suc len) k q e less = refl
in_row [] (suc low) zero k q e less = refl
in_row [] (suc low) (suc len) k q e less = refl
in_row (place ∷ places) zero zero k q e less = absurd (omega (arith, less))
in_row (place ∷ places) zero (suc len) zero zero e less = refl
in_row (place ∷ places) zero (suc len) zero (suc q) e less = absurd (omega (arith, e))
in_row (place ∷ places) zero (suc len) (suc k) zero e less = absurd (omega (arith, e))
in_row (place ∷ places) zero (suc len) (suc k) (suc q) e less =
    in_row places zero len k q (omega (arith, e)) (omega (arith, less))
in_row (place ∷ places) (suc low) len k zero e less = absurd (omega (arith, e))
in_row (place ∷ places) (suc low) len k (suc q) e less =
    in_row places low len k q (omega (arith, e)) less

-- a start is among those that are gone over
pub start_there : (number entry : ℕ) (starts : List Start) → IsAmong number entry starts
    → (k : ℕ) × (start : Start) × (slice_get starts k ≡ Some start) × (entry ≡ start.place)
start_there number entry [] is = absurd is
start_there number entry (start ∷ starts) (inl e) = (0, start, refl, e.1)
start_there number entry (start ∷ starts) (inr is) =
    let (k, found, at, same) = start_there number entry starts is in (suc k, found, at, same)

-- the stored place with this number
pub stored_at : (places : List code.Place) (q : ℕ) (place : Place ℕ)
    → slice_get (map place_of places) q ≡ Some place
    → (own : code.Place) × (slice_get places q ≡ Some own) × (place_of own ≡ place)
stored_at places q place e = by_code (slice_get places q) refl
  where
    by_code : (o : Option code.Place) → slice_get places q ≡ o
        → (own : code.Place) × (slice_get places q ≡ Some own) × (place_of own ≡ place)
    by_code None at =
        absurd
        (not_there (sym (slice_get-map place_of places q ∙ ap (option_map place_of) at) ∙ e))
    by_code (Some own) at = (
      own,
      at,
      same_some (sym (slice_get-map place_of places q ∙ ap (option_map place_of) at) ∙ e),
    )

-- patterns all of whose entries are in the part, which no arrow leaves, have it as theirs
pub part_of : (places : List code.Place) (entries : List ℕ) (starts : List Start)
    (part : PlaceRange) → part.low ≤ part.end → part.end ≤ length places → LeadWithin places part
    → AreAllStarts (map place_of places) entries starts
    → ((k : ℕ) (start : Start) → slice_get starts k ≡ Some start → IsInPart part start.place)
    → IsPartOf (map place_of places) entries part
part_of places entries starts part order inside closed all each = record {
  order = order;
  own = record {
    inside = let many = length-map places place_of in omega (arith, many, order, inside);
    entered = λ number entry is.
        let (k, start, at, same) = start_there number entry starts (all.each number entry is) in
        subst (IsInPart part) (sym same) (each k start at);
    closed = λ q place within at.
        let (own, there, same) = stored_at places q place at in
        subst (LeadsInto (IsInPart part)) same (closed q own within there);
  };
}
