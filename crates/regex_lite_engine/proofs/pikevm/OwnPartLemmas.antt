-- A search stays in the part of the table in which its patterns are entered, and pays for no other.
use Rattle.regex_lite_engine.proofs.Common.{◌≡◌, ℕ, zero, suc, ◌+◌, ◌<◌, ◌≤◌, List, [], ◌∷◌, length}
use Rattle.regex_lite_engine.proofs.Common.{take, drop, if◌then◌else◌, Bool, true, false}
use Rattle.regex_lite_engine.proofs.Common.{slice_index_or, refl, Some, sum_by, Option, subst}
use Rattle.regex_lite_engine.proofs.Common.{arith, length-take, sum_by-cons, IsWithin, row_of}
use Rattle.regex_lite_engine.proofs.Common.{IsOwnPart, InStep, SearchAt, numbered_step, StartsOf}
use Rattle.regex_lite_engine.proofs.Common.{Node, PendingNode, Text, Leads, WayReported, Row}
use Rattle.regex_lite_engine.proofs.Common.{Reported, IsEntry, is_wanted_end}
use Rattle.regex_lite_engine.specs.Graph.Places.{Place}
use Rattle.regex_lite_engine.specs.Pikevm.Capacity.{left_of}
use Rattle.regex_lite_engine.proofs.laws.search.NumberedWayLemmas.{leads_within}
use Rattle.regex_lite_engine.proofs.laws.search.RecordedWayLemmas.{traced}

module _ (table : List (Place ℕ)) (haystack : Text) (entries : List ℕ) (low len : ℕ)
    (part : IsOwnPart table entries low len) where
  -- arrows lead from where a pattern is entered to places of the part
  entered_within : (number entry i : ℕ) (arrows : List ℕ) (n : Node) → IsEntry entries number entry
      → Leads Node (numbered_step table haystack) (entry, i) arrows n → IsWithin low len n.0
  entered_within number entry i arrows n is along =
      leads_within haystack table (IsWithin low len) within part.closed arrows (entry, i) n
      (part.entered number entry is) along
    where
      within : (q : ℕ) → IsWithin low len q → q < length table
      within q inside = let high = part.inside in omega (arith, high, inside.1)

  -- and so does a way that is followed
  pub reported_within : (reported : Reported) (row : Row) (n : Node) (way : List ℕ)
      → WayReported table haystack entries reported row n way → IsWithin low len n.0
  reported_within reported row n way (from, number, entry, arrows, tells, is, front, along, slots) =
      entered_within number entry from arrows n is along

-- what is recorded is a place of the part
pub recorded_within : (table : List (Place ℕ)) (at : SearchAt) (low len : ℕ)
    → IsOwnPart table at.entries low len → (recorded : Node → Option (List ℕ))
    (now next : List (PendingNode Node)) (way : Option (List ℕ))
    → InStep table at.haystack at.entries at.whole at.first at.last at.p at.from recorded now next
    way
    → (n : Node) (v : List ℕ) → recorded n ≡ Some v → IsWithin low len n.0
recorded_within table at low len part recorded now next way in_step n v known =
    let t = traced Node (numbered_step table at.haystack)
    (is_wanted_end table at.haystack at.whole) (StartsOf at.entries at.first at.last) recorded way
    in_step.grown n v known in
    let (i, number, entry, above, below, is_entry, front, start) = t.is_start in
    entered_within table at.haystack at.entries low len part number entry i t.arrows n is_entry
    (subst (λ z. Leads Node (numbered_step table at.haystack) z t.arrows n) start t.along)

not_entered : (was : Bool) (value : ℕ) → (was ≡ true → ⊥) → (if was then 0 else value) ≡ value
not_entered true value other = absurd (other refl)
not_entered false value other = refl

-- where just places of the part were entered at the position, the others are left
pub left_outside : (f : Place ℕ → ℕ) (entered : List Bool) (table : List (Place ℕ)) (low len : ℕ)
    → length entered ≡ length table
    → ((q : ℕ) → slice_index_or entered q false ≡ true → IsWithin low len q)
    → sum_by f table ≤ left_of f entered table + sum_by f (row_of table low len)
left_outside f [] [] low len same only = omega arith
left_outside f [] (x ∷ table) low len same only = absurd (omega (arith, same))
left_outside f (was ∷ entered) [] low len same only = absurd (omega (arith, same))
left_outside f (was ∷ entered) (x ∷ table) (suc low) len same only =
    omega (
      arith,
      sum_by-cons f x table,
      not_entered was (f x) (λ e. absurd (omega (arith, (only 0 e).0))),
      left_outside f entered table low len (omega (arith, same)) (λ q e. (
          let inside = only (suc q) e in
          (omega (arith, inside.0), omega (arith, inside.1)))),
    )
left_outside f (was ∷ entered) (x ∷ table) zero (suc len) same only =
    omega (
      arith,
      sum_by-cons f x table,
      sum_by-cons f x (take len table),
      left_outside f entered table zero len (omega (arith, same)) (λ q e. (
          let inside = only (suc q) e in
          (omega arith, omega (arith, inside.1)))),
    )
left_outside f (was ∷ entered) (x ∷ table) zero zero same only =
    omega (
      arith,
      sum_by-cons f x table,
      not_entered was (f x) (λ e. absurd (omega (arith, (only 0 e).1))),
      left_outside f entered table zero zero (omega (arith, same)) (λ q e. (
          absurd (omega (arith, (only (suc q) e).1)))),
    )

pub length_row : (table : List (Place ℕ)) (low len : ℕ) → length (row_of table low len) ≤ len
length_row table low len = omega (arith, length-take len (drop low table))
