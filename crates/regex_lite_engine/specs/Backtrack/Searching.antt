-- A search of the bounded backtracker, from start to start.
use Rattle.std.specs.Prelude.{◌≡◌, ◌+◌, ◌-◌, ◌*◌, ◌≤◌, ◌<◌, ℕ, false, List, [], ◌∷◌, length, chars}
use Rattle.std.specs.Prelude.{replicate, slice_set, Option, Some, None, sum_by}
use Rattle.regex_lite_engine.specs.declared.backtrack.walk.Backtracker.{Backtracker}
use Rattle.regex_lite_engine.specs.Backtrack.Machine.{Frame, explore, restore}
use Rattle.regex_lite_engine.specs.Backtrack.Capacity.{searching, with_frames, AreAll, GoesOn}
use Rattle.regex_lite_engine.specs.Backtrack.Capacity.{HasCapacity, due_entries, due_tries}
use Rattle.regex_lite_engine.specs.Backtrack.Walking.{IsWalking}
use Rattle.regex_lite_engine.specs.Graph.Places.{Place, stack_bound_with}
use Rattle.regex_lite_engine.specs.Graph.Renumbered.{arrows_of}
use Rattle.regex_lite_engine.specs.Search.Bounds.{characters_left}
use Rattle.regex_lite_engine.specs.Search.Offsets.{position_at}
use Rattle.regex_lite_engine.specs.Search.Rows.{Row, IsBlank}

-- each slot that a frame restores lies in a row of this width
abbrev pub SlotsBelow : (width : ℕ) → List Frame → Type 0
SlotsBelow width [] = Unit {0}
SlotsBelow width (explore place at ∷ frames) = SlotsBelow width frames
SlotsBelow width (restore slot old ∷ frames) = (slot < width) × SlotsBelow width frames

-- frames are popped up to the first that explores a place
abbrev pub Restores : Row → List Frame → (next : Option (ℕ × ℕ)) → Row → List Frame → Type 0
Restores row [] next row' frames' = (next ≡ None) × (row' ≡ row) × (frames' ≡ [])
Restores row (explore place at ∷ frames) next row' frames' =
    (next ≡ Some (place, at)) × (row' ≡ row) × (frames' ≡ frames)
Restores row (restore slot old ∷ frames) next row' frames' =
    Restores (slice_set row slot old) frames next row' frames'

module _ (table : List (Place ℕ)) (haystack : List ℕ) where
  -- all ways from the start at this offset were followed, or a match ends at `end`
  pub record Explores (entry start : ℕ) (walk walk' : Backtracker) (end : Option ℕ) : Type 0 where
    pub on : GoesOn table haystack (with_frames walk (explore entry start ∷ []))
        (with_frames walk' []) end
    pub fit : end ≡ None → HasCapacity table haystack walk' []
    pub empty : end ≡ None → walk'.stack.frames ≡ []
    pub entered_tried : walk'.steps.entered ≤ walk'.steps.tried
    pub looked_entered : walk'.steps.looked ≤ walk'.steps.entered

  module _ (start : ℕ) where
    -- there is room for the frames of all pairs
    abbrev pub HasCapacityForAll : Backtracker → Type 0
    HasCapacityForAll walk =
        sum_by (stack_bound_with (length walk.stack.row)) table * (length haystack - start + 1)
        ≤ walk.stack.room

    -- a search from this offset on has not begun
    pub record IsFresh (walk : Backtracker) : Type 0 where
      pub all : AreAll table haystack walk.visited
      pub first : walk.visited.first ≡ start
      pub none : walk.visited.entered
          ≡ replicate (length table * (length haystack - start + 1)) false
      pub frames : walk.stack.frames ≡ []
      pub blank : IsBlank walk.stack.row
      pub room : HasCapacityForAll walk
      pub tried : walk.steps.tried ≡ 0
      pub entered : walk.steps.entered ≡ 0
      pub looked : walk.steps.looked ≡ 0

    -- all ways from the starts below position p were followed, and the counts are within the bounds
    -- for them
    pub record IsUnderWay (entry p : ℕ) (walk : Backtracker) : Type 0 where
      pub low : position_at haystack start ≤ p
      pub first : walk.visited.first ≡ start
      pub fit : HasCapacity table haystack walk []
      pub room : HasCapacityForAll walk
      pub empty : walk.stack.frames ≡ []
      pub walking : IsWalking table
          (searching table haystack entry (position_at haystack start) p 0) walk.visited
          (record walk.stack { frames = [] })
      pub tries :
          due_tries table haystack walk + (length (chars haystack) + 1 - p)
          ≤ (arrows_of table + 1) * (characters_left (chars haystack) (position_at haystack start)
          + 1)
      pub entries :
          due_entries table haystack walk
          ≤ length table * (characters_left (chars haystack) (position_at haystack start) + 1)
