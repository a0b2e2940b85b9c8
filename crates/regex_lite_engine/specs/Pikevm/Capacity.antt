-- The working memory suffices for the stack at a position, and what is left to do bounds the
-- counts.
use Rattle.std.specs.Prelude.{◌≡◌, ◌+◌, ◌^◌, ◌≤◌, ◌<◌, ℕ, Bool, true, false}
use Rattle.std.specs.Prelude.{List, [], ◌∷◌, length, Some, if◌then◌else◌}
use Rattle.regex_lite_engine.specs.Search.ThreadStarts.{Reported}
use Rattle.regex_lite_engine.specs.declared.search.here.Here.{Here}
use Rattle.regex_lite_engine.specs.declared.pikevm.walk.Walk.{Walk}
use Rattle.regex_lite_engine.specs.Graph.Places.{Place, reading_count, reading_of, stack_bound}
use Rattle.regex_lite_engine.specs.Graph.Renumbered.{arrow_count}
use Rattle.regex_lite_engine.specs.Pikevm.Again.{AreAlike, state_relabelled}
use Rattle.regex_lite_engine.specs.Pikevm.Machine.{Job, explore, restore}
use Rattle.regex_lite_engine.specs.Pikevm.Machine.{Thread, thread_at, State}
use Rattle.regex_lite_engine.specs.Search.Counting.{lone, weight}
use Rattle.regex_lite_engine.specs.Search.Here.{IsHere}
use Rattle.regex_lite_engine.specs.Pikevm.Walking.{SearchAt, IsWalking}
use Rattle.regex_lite_engine.specs.Search.NumberedOutcomes.{Best}

-- the sum over the places that were not entered at this position
abbrev pub left_of : (Place ℕ → ℕ) → (entered : List Bool) → List (Place ℕ) → ℕ
left_of measure [] table = 0
left_of measure (was ∷ entered) [] = 0
left_of measure (was ∷ entered) (place ∷ table) =
    (if was then 0 else measure place) + left_of measure entered table

abbrev pub explores : List Job → ℕ
explores [] = 0
explores (explore place ∷ frames) = explores frames + 1
explores (restore slot old ∷ frames) = explores frames

abbrev pub FramesBelow : (places width : ℕ) → List Job → Type 0
FramesBelow places width [] = Unit {0}
FramesBelow places width (explore place ∷ frames) =
    (place < places) × FramesBelow places width frames
FramesBelow places width (restore slot old ∷ frames) =
    (slot < width) × FramesBelow places width frames

abbrev pub ThreadsBelow : (places : ℕ) → List Thread → Type 0
ThreadsBelow places threads = (k : ℕ) → k < length threads → (thread_at threads k).0 < places

-- the same walk with this stack
abbrev pub with_frames : {S : Type 0} → Walk S → List Job → Walk S
with_frames walk frames = record walk { memory = record walk.memory { frames = frames } }

module _ (table : List (Place ℕ)) where
  -- the number of tries so far, and of those that the stack may still cause
  abbrev pub due_tries : {S : Type 0} → Walk S → ℕ
  due_tries walk =
      walk.steps.tried
      + (explores walk.memory.frames
      + (length walk.memory.next
      + left_of arrow_count walk.memory.entered table))

  abbrev pub due_entries : {S : Type 0} → Walk S → ℕ
  due_entries walk =
      walk.steps.entered + left_of lone walk.memory.entered table

  -- a bound on what is left to do at this position
  abbrev pub work : State → ℕ
  work state = length state.frames + left_of weight state.entered table

  pub record IsFit {S : Type 0} (walk : Walk S) : Type 0 where
    pub all_seen : length walk.memory.entered ≡ length table
    pub frames_below : FramesBelow (length table) (length walk.memory.row) walk.memory.frames
    pub threads_below : ThreadsBelow (length table) walk.memory.next
    pub stack_room :
        length walk.memory.frames + left_of stack_bound walk.memory.entered table
        ≤ length table
    pub next_room :
        length walk.memory.next + left_of reading_count walk.memory.entered table
        ≤ reading_of table
    pub next_cap : reading_of table < walk.memory.room
    pub few_tries : due_tries walk < 2 ^ 127
    pub few_entries : due_entries walk < 2 ^ 127
    pub entered_tried : walk.steps.entered ≤ walk.steps.tried
    pub looked_entered : walk.steps.looked ≤ walk.steps.entered

  -- a search goes from one state to a later one
  abbrev pub WalksAt : SearchAt → Here → (reported : Reported) → (before after : State)
      → (done : Bool) → Type 0
  WalksAt at here reported before after done =
      IsHere at.haystack at.p here → (ways : List Thread) (best : Best)
      → IsWalking table at before reported ways best
      → IsWalking table at after reported (if done then [] else ways)
      (if done then Some (reported, here.at, after.row) else best)

  -- any search for such matches goes from one state to a later one, in every haystack in which it
  -- is at this position
  abbrev pub WalksTo : (whole : Bool) → Here → (reported : Reported) → (before after : State)
      → (done : Bool) → Type 0
  WalksTo whole here reported before after done =
      (at : SearchAt) → at.whole ≡ whole → WalksAt at here reported before after done

  -- a search for all matches goes on in the same way at every position with the same neighbours,
  -- with something else kept of the starts
  abbrev pub WalksAgain : Here → (reported : Reported) → (before after : State) → (done : Bool)
      → Type 0
  WalksAgain here reported before after done =
      (tell : Reported → Reported) (there : Here) (at : SearchAt) → at.whole ≡ false
      → AreAlike table at.entries here there
      → WalksAt at there (tell reported) (state_relabelled tell before)
      (state_relabelled tell after) done

  -- a walk continued, up to a complete match if it is done
  pub record GoesOn {S : Type 0} (whole : Bool) (here : Here) (reported : Reported)
      (walk walk' : Walk S) (done : Bool) : Type 0 where
    pub walks : WalksTo whole here reported walk.memory walk'.memory done
    pub again : whole ≡ false → WalksAgain here reported walk.memory walk'.memory done
    pub spent : due_tries walk' ≤ due_tries walk
    pub spent_entries : due_entries walk' ≤ due_entries walk

  -- a frame was popped, or all of them if a match is complete
  pub record Went {S : Type 0} (whole : Bool) (here : Here) (reported : Reported)
      (walk walk' : Walk S) (done : Bool) : Type 0 where
    pub fit : IsFit walk'
    pub on : GoesOn whole here reported walk walk' done
    pub less : done ≡ false → work walk'.memory < work walk.memory
    pub cleared : done ≡ true → walk'.memory.frames ≡ []

  -- Definitions for a walk with these stacks

  abbrev pub HasCapacity : {S : Type 0} → Walk S → List Job → Type 0
  HasCapacity walk frames = IsFit (with_frames walk frames)

  abbrev pub TakesFrame : {S : Type 0} → (whole : Bool) → Here → (reported : Reported) → Walk S
      → List Job → Walk S → List Job → (done : Bool) → Type 0
  TakesFrame whole here reported walk frames walk' frames' done =
      Went whole here reported (with_frames walk frames) (with_frames walk' frames') done

  -- all frames were popped
  abbrev pub Explores : {S : Type 0} → (whole : Bool) → Here → (reported : Reported)
      → (walk walk' : Walk S) → List Job → (done : Bool) → Type 0
  Explores whole here reported walk walk' frames done =
      GoesOn whole here reported (with_frames walk frames) (with_frames walk' []) done

-- what the step at a position doesn't change
pub record KeepsPosition (memory memory' : State) : Type 0 where
  pub threads : memory'.threads ≡ memory.threads
  pub room : memory'.room ≡ memory.room
  pub row : length memory'.row ≡ length memory.row
