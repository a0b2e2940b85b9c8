-- Frames that come off.
use Rattle.regex_lite_engine.proofs.Common.{◌≡◌, ℕ, ◌≤◌, List, [], ◌∷◌, length, slice_set, None}
use Rattle.regex_lite_engine.proofs.Common.{Some, Option, sym, ap, ◌∙◌, subst, arith, Restores, Row}
use Rattle.regex_lite_engine.specs.Backtrack.Machine.{Frame, explore, restore}
use Rattle.regex_lite_engine.specs.Backtrack.Capacity.{explores, FramesBelow}
use Rattle.regex_lite_engine.specs.Backtrack.Searching.{SlotsBelow}
use Rattle.regex_lite_engine.specs.Graph.Places.{Place}

-- what is left to do with the place that is loaded
abbrev pub loaded : Option (ℕ × ℕ) → List Frame → List Frame
loaded None frames = frames
loaded (Some next) frames = explore next.0 next.1 ∷ frames

module _ (next : Option (ℕ × ℕ)) (row' : Row) (frames' : List Frame) where
  -- what comes next was among them
  pub restored : (row : Row) (q at : ℕ) (frames : List Frame)
      → Restores row (explore q at ∷ frames) next row' frames'
      → loaded next frames' ≡ explore q at ∷ frames
  restored row q at frames (en, er, ef) =
      ap (λ n. loaded n frames') en ∙ ap (λ fs. explore q at ∷ fs) ef

  pub restored_none : (row : Row) → Restores row [] next row' frames' → loaded next frames' ≡ []
  restored_none row (en, er, ef) = ap (λ n. loaded n frames') en ∙ ef

  pub restores_explores : (row : Row) (frames : List Frame) → Restores row frames next row' frames'
      → explores (loaded next frames') ≡ explores frames
  restores_explores row [] u = ap explores (restored_none row u)
  restores_explores row (explore q at ∷ frames) u = ap explores (restored row q at frames u)
  restores_explores row (restore slot old ∷ frames) u =
      restores_explores (slice_set row slot old) frames u

  pub restores_fewer : (row : Row) (frames : List Frame) → Restores row frames next row' frames'
      → length (loaded next frames') ≤ length frames
  restores_fewer row [] u = let same = ap length (restored_none row u) in omega (arith, same)
  restores_fewer row (explore q at ∷ frames) u =
      let same = ap length (restored row q at frames u) in omega (arith, same)
  restores_fewer row (restore slot old ∷ frames) u =
      let more = restores_fewer (slice_set row slot old) frames u in omega (arith, more)

  pub restores_below : (table : List (Place ℕ)) (haystack : List ℕ) (first width : ℕ) (row : Row)
      (frames : List Frame)
      → Restores row frames next row' frames' →
      FramesBelow table haystack first width frames
      → FramesBelow table haystack first width (loaded next frames')
  restores_below table haystack first width row [] u b =
      subst (FramesBelow table haystack first width) (sym (restored_none row u)) b
  restores_below table haystack first width row (explore q at ∷ frames) u b =
      subst (FramesBelow table haystack first width) (sym (restored row q at frames u)) b
  restores_below table haystack first width row (restore slot old ∷ frames) u b =
      restores_below table haystack first width (slice_set row slot old) frames u b.1

pub slots_below : (table : List (Place ℕ)) (haystack : List ℕ) (first width : ℕ)
    (frames : List Frame)
    → FramesBelow table haystack first width frames → SlotsBelow width frames
slots_below table haystack first width [] b = tt
slots_below table haystack first width (explore q at ∷ frames) b =
    slots_below table haystack first width frames b.3
slots_below table haystack first width (restore slot old ∷ frames) b =
    (b.0, slots_below table haystack first width frames b.1)

pub none_left : (row row' : Row) (frames frames' : List Frame)
    → Restores row frames None row' frames' → frames' ≡ []
none_left row row' [] frames' (en, er, ef) = ef
none_left row row' (explore q at ∷ frames) frames' (en, er, ef) = cc
none_left row row' (restore slot old ∷ frames) frames' u =
    none_left (slice_set row slot old) row' frames frames' u
