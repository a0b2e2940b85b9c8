-- The places that searches for some patterns can reach.
use Rattle.std.specs.Prelude.{◌≡◌, ◌-◌, ◌≤◌, ℕ, List, Some, slice_get}
use Rattle.regex_lite_engine.specs.declared.nfa.place.Place as code
use Rattle.regex_lite_engine.specs.Graph.Parts.{IsOwnPart, IsWithin}
use Rattle.regex_lite_engine.specs.Graph.Places.{Place}
use Rattle.regex_lite_engine.specs.Graph.Stored.{LeadsInto, place_of}
use Rattle.regex_lite_meta.specs.declared.lazy_dfa.part.PlaceRange.{PlaceRange}

-- the place with this number is in the part
abbrev pub IsInPart : PlaceRange → (q : ℕ) → Type 0
IsInPart part q = IsWithin part.low (part.end - part.low) q

-- the part after has all places of the part before
abbrev pub Widens : (before after : PlaceRange) → Type 0
Widens before after = (after.low ≤ before.low) × (before.end ≤ after.end)

-- no arrow leads out of the part
abbrev pub LeadWithin : List code.Place → PlaceRange → Type 0
LeadWithin places part =
    (q : ℕ) (place : code.Place) → IsInPart part q → slice_get places q ≡ Some place
    → LeadsInto (IsInPart part) (place_of place)

-- the part has all entries of the patterns, and no arrow leads out of it
pub record IsPartOf (table : List (Place ℕ)) (entries : List ℕ) (part : PlaceRange) : Type 0 where
  pub order : part.low ≤ part.end
  pub own : IsOwnPart table entries part.low (part.end - part.low)
