-- The invariants of the PikeVM at one position.
use Rattle.std.specs.Prelude.{◌≡◌, ℕ, suc, Bool, IsTrue, List, [], ◌∷◌, ◌++◌}
use Rattle.std.specs.Prelude.{Option, Some, None, slice_set, slice_index_or, true, false}
use Rattle.regex_lite_syntax.specs.Text.{Text}
use Rattle.regex_lite_engine.specs.Graph.Places.{Place}
use Rattle.regex_lite_engine.specs.Graph.Ways.{Leads}
use Rattle.regex_lite_engine.specs.Search.Marks.{marks_along}
use Rattle.regex_lite_engine.specs.Search.NumberedAnswer.{place_with, numbered_step, is_end}
use Rattle.regex_lite_engine.specs.Search.NumberedAnswer.{is_wanted_end}
use Rattle.regex_lite_engine.specs.Search.NumberedList.{IsEntry, StartsOf}
use Rattle.regex_lite_engine.specs.Search.Offsets.{offset, HasSlots}
use Rattle.regex_lite_engine.specs.Search.ThreadStarts.{Reported, TellsStart}
use Rattle.regex_lite_engine.specs.Pikevm.Machine.{Job, explore, restore, Thread, State}
use Rattle.regex_lite_engine.specs.Search.Rows.{Row}
use Rattle.regex_lite_engine.specs.Pikevm.InStep.{IsInStep}
use Rattle.regex_lite_engine.specs.Search.NumberedOutcomes.{Best}
use Rattle.regex_lite_engine.specs.Search.Pending.{PendingNode, Node}

module _ (table : List (Place ℕ)) (haystack : Text) where
  module _ (entries : List ℕ) where
    -- the way leads to the node from the entry of a pattern, `reported` agrees with its start, and
    -- the row has what it marks; the way begins with the start's position and the pattern's number
    abbrev pub WayReported : (reported : Reported) → Row → Node → (way : List ℕ) → Type 0
    WayReported reported row node way =
        (from : ℕ) × (number : ℕ) × (entry : ℕ) × (arrows : List ℕ)
        × TellsStart reported (offset haystack from) number × IsEntry entries number entry
        × (way ≡ from ∷ (number ∷ arrows))
        × Leads Node (numbered_step table haystack) (entry, from) arrows node
        × HasSlots haystack row
        (marks_along haystack (place_with table) (Some (entry, from)) arrows)

    -- the frames hold the pending nodes at position p, the first on top; the row of each is the row
    -- when its frame is popped
    abbrev pub FramesHold : (p : ℕ) → (reported : Reported) → Row → List Job → List
        (PendingNode Node) → Type 0
    FramesHold p reported row [] pending = pending ≡ []
    FramesHold p reported row (explore place ∷ frames) pending =
        (way : List ℕ) × (rest : List (PendingNode Node)) × (pending ≡ ((place, p), way) ∷ rest)
        × WayReported reported row (place, p) way × FramesHold p reported row frames rest
    FramesHold p reported row (restore slot old ∷ frames) pending =
        FramesHold p reported (slice_set row slot old) frames pending

    -- the threads hold the pending nodes at position p, one each
    abbrev pub ThreadsHold : (p : ℕ) → List Thread → List (PendingNode Node) → Type 0
    ThreadsHold p [] [] = Unit {0}
    ThreadsHold p (thread ∷ threads) (pending_node ∷ pending) =
        (pending_node.0 ≡ (thread.0, p)) × WayReported thread.1 thread.2 pending_node.0
        pending_node.1 × ThreadsHold p threads pending
    ThreadsHold p [] (pending_node ∷ pending) = ⊥
    ThreadsHold p (thread ∷ threads) [] = ⊥

    -- the best match is that of the way
    abbrev pub BestHolds : Best → Option (List ℕ) → Type 0
    BestHolds None way = way ≡ None
    BestHolds (Some best) way =
        (own : List ℕ) × (way ≡ Some own)
        × ((place : ℕ) × (end : ℕ) × (best.1 ≡ offset haystack end)
        × IsTrue (is_end table haystack (place, end)) × WayReported best.0 best.2 (place, end) own)

    module _ (whole : Bool) (first last : ℕ) where
      abbrev pub InStep : (p from : ℕ) → (recorded : Node → Option (List ℕ))
          → (pending next : List (PendingNode Node)) → (way : Option (List ℕ)) → Type 0
      InStep =
          IsInStep Node (numbered_step table haystack) (StartsOf entries first last)
          (is_wanted_end table haystack whole) (λ node. node.1)

-- a search at position p: for the patterns with these entries, by ways that start from `first` to
-- `last`; if `whole`, for matches that end where the haystack ends; starts below `from` were added
pub record SearchAt : Type 0 where
  pub haystack : Text
  pub entries : List ℕ
  pub whole : Bool
  pub first : ℕ
  pub last : ℕ
  pub p : ℕ
  pub from : ℕ

-- The frames belong to a thread of whose start `reported` is kept. The frames are pending, and then
-- these ways; so far the threads of the next position are those of `next`
pub record IsWalking (table : List (Place ℕ)) (at : SearchAt) (state : State) (reported : Reported)
    (ways : List Thread) (best : Best) : Type 0 where
  pub recorded : Node → Option (List ℕ)
  pub under : List (PendingNode Node)
  pub later : List (PendingNode Node)
  pub coming : List (PendingNode Node)
  pub way : Option (List ℕ)
  pub in_step : InStep table at.haystack at.entries at.whole at.first at.last at.p at.from
      recorded (under ++ later) coming way
  -- exactly the places with a recorded way at the position are in the set of entered places
  pub seen : (place : ℕ) (own : List ℕ) → recorded (place, at.p) ≡ Some own
      → slice_index_or state.entered place false ≡ true
  pub met : (place : ℕ) → slice_index_or state.entered place false ≡ true
      → (own : List ℕ) × (recorded (place, at.p) ≡ Some own)
  pub frames_hold : FramesHold table at.haystack at.entries at.p reported state.row state.frames
      under
  pub ways_hold : ThreadsHold table at.haystack at.entries at.p ways later
  pub coming_hold : ThreadsHold table at.haystack at.entries (suc at.p) state.next coming
  pub best_holds : BestHolds table at.haystack at.entries best way
