-- The representation of the set of places that were entered at a position.
use Rattle.std.specs.Prelude.{◌-◌, ◌==◌, ◌≤◌, ◌<◌, ℕ, Bool, List, [], ◌∷◌}
use Rattle.std.specs.Prelude.{map, slice_index, vec_capacity}
use Rattle.std.specs.List.{range_with_len}
use Rattle.regex_lite_engine.specs.Backtrack.Bits.{bits_of}
use Rattle.regex_lite_engine.specs.declared.pikevm.place_set.Marks.{Marks}
use Rattle.regex_lite_engine.specs.declared.pikevm.place_set.Marks.TheVariants as marks

-- the stamp of a place is that of the generation, if `left` is the number of places from it to the
-- last one, including both
abbrev pub is_stamped : (stamps : List ℕ) → (generation left : ℕ) → Bool
is_stamped stamps generation left = slice_index stamps (left - 1) == generation

-- whether each place is in the set
abbrev pub members : Marks → (places : ℕ) → List Bool
members (marks.Bits bits) places = bits_of (bits ∷ []) places
members (marks.Stamps kept) places =
    map (λ place. is_stamped kept.stamps.items kept.generation (places - place))
    (range_with_len 0 places)

-- no stamp is later than the generation; a missing stamp counts as 0, so no generation is 0
pub record AreStamps (stamps : List ℕ) (generation : ℕ) : Type 0 where
  pub some : 0 < generation
  pub old : (k : ℕ) → slice_index stamps k ≤ generation

-- the bits or the stamps suffice for all places
abbrev pub FitPlaces : Marks → (places : ℕ) → Type 0
FitPlaces (marks.Bits bits) places = places ≤ 64
FitPlaces (marks.Stamps kept) places =
    (places ≤ vec_capacity kept.stamps) × AreStamps kept.stamps.items kept.generation
