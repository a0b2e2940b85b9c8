-- The state of the bounded backtracker.
use Rattle.std.specs.Prelude.{◌+◌, ◌-◌, ◌*◌, ℕ, Bool, true, false, List}
use Rattle.std.specs.Prelude.{◌∷◌, Option, Some, None, slice_index_or, if◌then◌else◌}
use Rattle.regex_lite_engine.specs.declared.backtrack.frame.Frame as code
use Rattle.regex_lite_engine.specs.declared.backtrack.frame.Frame.TheVariants as stored
use Rattle.regex_lite_engine.specs.declared.backtrack.enter.Continuation.{Continuation}
use Rattle.regex_lite_engine.specs.declared.backtrack.enter.Continuation.TheVariants.{To, Back}
use Rattle.regex_lite_engine.specs.declared.backtrack.enter.Continuation.TheVariants.{Complete}
use Rattle.regex_lite_engine.specs.Search.Rows.{Row}

-- A frame of the stack: to explore a place at an offset, or to restore the content of a slot
pub data Frame : Type 0 where
  explore : (place at : ℕ) → Frame
  restore : (slot : ℕ) → (old : Option ℕ) → Frame

abbrev pub frame_of : code.Frame → Frame
frame_of (stored.Explore place at) = explore place at
frame_of (stored.Clear slot) = restore slot None
frame_of (stored.Restore slot at) = restore slot (Some at)

-- the stack, with the next place on top
abbrev pub onto : Continuation → List Frame → List Frame
onto (To place at) frames = explore place at ∷ frames
onto Back frames = frames
onto Complete frames = frames

-- a match is complete
abbrev pub completes : Continuation → Bool
completes (To place at) = false
completes Back = false
completes Complete = true

-- the end of a match that is complete at the offset
abbrev pub end_at : (at : ℕ) → Continuation → Option ℕ
end_at at reported = if completes reported then Some at else None

-- the pairs of a place and an offset, for this many places, from the first offset on
pub record Pairs : Type 0 where
  -- whether each pair was entered
  pub entered : List Bool
  pub places : ℕ
  pub first : ℕ
  -- the greatest number of pairs
  pub room : ℕ

-- the number of a pair
abbrev pub pair_number : (places first : ℕ) → (place at : ℕ) → ℕ
pair_number places first place at = (at - first) * places + place

-- the place was entered at the offset
abbrev pub was_entered : Pairs → (place at : ℕ) → Bool
was_entered pairs place at =
    slice_index_or pairs.entered (pair_number pairs.places pairs.first place at) false

-- what the walk holds: the row of the current path, and the stack
pub record Held : Type 0 where
  -- the stack, the top frame first
  pub frames : List Frame
  -- the contents of the slots along the path
  pub row : Row
  -- the greatest number of frames
  pub room : ℕ
