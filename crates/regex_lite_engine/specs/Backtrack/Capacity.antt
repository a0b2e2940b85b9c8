-- The working memory suffices for the stack, and what is left to do bounds the counts.
use Rattle.std.specs.Prelude.{◌≡◌, ◌+◌, ◌-◌, ◌*◌, ◌^◌, ◌≤◌, ◌<◌, ℕ, zero, suc}
use Rattle.std.specs.Prelude.{Bool, false, List, [], ◌∷◌, length, chars, Option, Some, None}
use Rattle.std.specs.Prelude.{IsCharBoundary, slice_index_or, if◌then◌else◌}
use Rattle.regex_lite_engine.specs.declared.backtrack.walk.Backtracker.{Backtracker}
use Rattle.regex_lite_engine.specs.Backtrack.Machine.{Frame, explore, restore, Pairs, pair_number}
use Rattle.regex_lite_engine.specs.Backtrack.Walking.{IsWalking, SearchFrom}
use Rattle.regex_lite_engine.specs.Graph.Places.{Place, stack_bound_with}
use Rattle.regex_lite_engine.specs.Graph.Renumbered.{arrow_count}
use Rattle.regex_lite_engine.specs.Search.Bounds.{characters_left}
use Rattle.regex_lite_engine.specs.Search.Offsets.{offset, position_at}
use Rattle.regex_lite_engine.specs.Search.NumberedOutcomes.{IsNumberedOutcome}
use Rattle.regex_lite_engine.specs.Search.Counting.{lone, weight}

-- the sum over the places that were not entered, whose pairs have the numbers from `pair` on
abbrev pub left_in : (Place ℕ → ℕ) → (entered : List Bool) → (pair : ℕ) → List (Place ℕ) → ℕ
left_in measure entered pair [] = 0
left_in measure entered pair (place ∷ table) =
    (if slice_index_or entered pair false then 0 else measure place)
    + left_in measure entered (suc pair) table

abbrev pub explores : List Frame → ℕ
explores [] = 0
explores (explore place at ∷ frames) = explores frames + 1
explores (restore slot old ∷ frames) = explores frames

-- the same walk with this stack
abbrev pub with_frames : Backtracker → List Frame → Backtracker
with_frames walk frames = record walk { stack = record walk.stack { frames = frames } }

module _ (table : List (Place ℕ)) (haystack : List ℕ) where
  -- the sum over the places that were not entered, at n positions from p on
  abbrev pub left_from : (Place ℕ → ℕ) → Pairs → (p n : ℕ) → ℕ
  left_from measure pairs p zero = 0
  left_from measure pairs p (suc n) =
      left_in measure pairs.entered
      (pair_number pairs.places pairs.first 0 (offset (chars haystack) p)) table
      + left_from measure pairs (suc p) n

  -- the sum over the places that were not entered, at all positions of the search
  abbrev pub left_of : (Place ℕ → ℕ) → Pairs → ℕ
  left_of measure pairs =
      left_from measure pairs (position_at haystack pairs.first)
      (characters_left (chars haystack) (position_at haystack pairs.first) + 1)

  -- the frames have pairs of the search, and slots of a row of this width
  abbrev pub FramesBelow : (first width : ℕ) → List Frame → Type 0
  FramesBelow first width [] = Unit {0}
  FramesBelow first width (explore place at ∷ frames) =
      (place < length table) × (first ≤ at) × IsCharBoundary haystack at
      × FramesBelow first width frames
  FramesBelow first width (restore slot old ∷ frames) =
      (slot < width) × FramesBelow first width frames

  -- the number of tries so far, and of those that the stack may still cause
  abbrev pub due_tries : Backtracker → ℕ
  due_tries walk =
      walk.steps.tried + (explores walk.stack.frames + left_of arrow_count walk.visited)

  abbrev pub due_entries : Backtracker → ℕ
  due_entries walk = walk.steps.entered + left_of lone walk.visited

  -- a bound on what is left to do from this start
  abbrev pub work : Backtracker → ℕ
  work walk = length walk.stack.frames + left_of weight walk.visited

  -- each pair of the search has a bit
  pub record AreAll (pairs : Pairs) : Type 0 where
    pub places : pairs.places ≡ length table
    pub boundary : IsCharBoundary haystack pairs.first
    pub all : length pairs.entered ≡ length table * (length haystack - pairs.first + 1)

  -- the top frame needs no further room on the stack
  pub record IsFit (walk : Backtracker) : Type 0 where
    pub all : AreAll walk.visited
    pub below : FramesBelow walk.visited.first (length walk.stack.row) walk.stack.frames
    pub stack_room :
        length walk.stack.frames + left_of (stack_bound_with (length walk.stack.row)) walk.visited
        ≤ walk.stack.room + 1
    pub few_tries : due_tries walk < 2 ^ 127
    pub few_entries : due_entries walk < 2 ^ 127
    pub entered_tried : walk.steps.entered ≤ walk.steps.tried
    pub looked_entered : walk.steps.looked ≤ walk.steps.entered

  abbrev pub HasCapacity : Backtracker → List Frame → Type 0
  HasCapacity walk frames = IsFit (with_frames walk frames)

  -- what a walk doesn't change
  pub record Keeps (walk walk' : Backtracker) : Type 0 where
    pub places : walk'.visited.places ≡ walk.visited.places
    pub first : walk'.visited.first ≡ walk.visited.first
    pub row : length walk'.stack.row ≡ length walk.stack.row
    pub room : walk'.stack.room ≡ walk.stack.room
    pub pairs : walk'.visited.room ≡ walk.visited.room

  abbrev pub searching : (entry first from start : ℕ) → SearchFrom
  searching entry first from start = record {
    haystack = chars haystack;
    entry = entry;
    first = first;
    from = from;
    i = start;
  }

  -- the invariant of the walk still holds, or a match that ends at `end` is complete and is the
  -- answer
  abbrev pub IsWalkingOrDone : (entry first from start : ℕ) → Backtracker → (end : Option ℕ)
      → Type 0
  IsWalkingOrDone entry first from start walk None =
      IsWalking table (searching entry first from start) walk.visited walk.stack
  IsWalkingOrDone entry first from start walk (Some end) =
      IsNumberedOutcome table (chars haystack) entry first (Some (start, end, walk.stack.row))

  -- a walk leads from one state to a later one, or to a match that ends at `end`
  abbrev pub WalksTo : (walk walk' : Backtracker) → (end : Option ℕ) → Type 0
  WalksTo walk walk' end =
      (entry from start : ℕ)
      → IsWalkingOrDone entry (position_at haystack walk.visited.first) from start walk None
      → IsWalkingOrDone entry (position_at haystack walk.visited.first) from start walk' end

  -- a walk continued, or ended with a match that ends at `end`
  pub record GoesOn (walk walk' : Backtracker) (end : Option ℕ) : Type 0 where
    pub walks : WalksTo walk walk' end
    pub kept : Keeps walk walk'
    pub spent : due_tries walk' ≤ due_tries walk
    pub spent_entries : due_entries walk' ≤ due_entries walk

  -- a frame was popped, or a match that ends at `end` is complete
  pub record Went (walk walk' : Backtracker) (end : Option ℕ) : Type 0 where
    pub on : GoesOn walk walk' end
    pub fit : end ≡ None → IsFit walk'
    pub less : end ≡ None → work walk' < work walk
    pub entered_tried : walk'.steps.entered ≤ walk'.steps.tried
    pub looked_entered : walk'.steps.looked ≤ walk'.steps.entered

  -- the same walks with these stacks
  abbrev pub TakesFrame : Backtracker → List Frame → Backtracker → List Frame → (end : Option ℕ)
      → Type 0
  TakesFrame walk frames walk' frames' end =
      Went (with_frames walk frames) (with_frames walk' frames') end
