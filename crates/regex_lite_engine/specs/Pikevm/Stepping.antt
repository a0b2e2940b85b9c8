-- The step at one position: from its threads to those of the next position.
use Rattle.std.specs.Prelude.{◌≡◌, ◌≤◌, ◌<◌, ◌⊎◌, ℕ, Bool, false, List, [], ◌∷◌, ◌++◌, length}
use Rattle.std.specs.Prelude.{replicate, Option, Some, None}
use Rattle.regex_lite_syntax.specs.Text.{Text}
use Rattle.regex_lite_engine.specs.declared.search.here.Here.{Here}
use Rattle.regex_lite_engine.specs.declared.search.patterns.Start.{Start}
use Rattle.regex_lite_engine.specs.Search.ThreadStarts.{Reported, no_start}
use Rattle.regex_lite_engine.specs.Graph.Places.{Place, reading_of, stack_bound_of}
use Rattle.regex_lite_engine.specs.Search.Bounds.{StepCounts}
use Rattle.regex_lite_engine.specs.Search.Pending.{PendingNode, Node}
use Rattle.regex_lite_engine.specs.Pikevm.Machine.{Thread, State, BestState}
use Rattle.regex_lite_engine.specs.Search.Rows.{Row}
use Rattle.regex_lite_engine.specs.Search.Here.{IsHere}
use Rattle.regex_lite_engine.specs.Search.NumberedOutcomes.{Best, best_at}
use Rattle.regex_lite_engine.specs.Pikevm.Walking.{SearchAt, ThreadsHold}
use Rattle.regex_lite_engine.specs.Pikevm.Walking.{BestHolds, InStep, IsWalking}
use Rattle.regex_lite_engine.specs.Pikevm.Capacity.{ThreadsBelow}

-- the match that is stored
abbrev pub best_of : BestState → Best
best_of best = best_at best.found best.row

-- as long as there is no match, all starts below p were added
abbrev pub FromIs : (p from : ℕ) → Best → Type 0
FromIs p from None = from ≡ p
FromIs p from (Some best) = Unit {0}

-- the best match afterwards is the one before, or ends at the offset
abbrev pub EndsAt : (at : ℕ) → (before after : Best) → Type 0
EndsAt at before after =
    (after ≡ before) ⊎ ((reported : Reported) × (row : Row) × (after ≡ Some (reported, at, row)))

module _ (table : List (Place ℕ)) where
  -- the stack is empty
  abbrev pub Between : SearchAt → State → (ways : List Thread) → Best → Type 0
  Between at state ways best =
      IsWalking table at (record state { row = []; frames = [] }) no_start ways best

  -- a search follows some of the threads
  abbrev pub StepsAt : SearchAt → Here → (before : State) → (ways : List Thread) → Best
      → (after : State) → (left : List Thread) → Best → Type 0
  StepsAt at here before ways best after left best' =
      IsHere at.haystack at.p here → Between at before ways best → Between at after left best'

  -- any search for such matches follows some of the threads
  abbrev pub StepsTo : (whole : Bool) → Here → (before : State) → (ways : List Thread) → Best
      → (after : State) → (left : List Thread) → Best → Type 0
  StepsTo whole here before ways best after left best' =
      (at : SearchAt) → at.whole ≡ whole → StepsAt at here before ways best after left best'

  -- everything before position p is done; the pending ways at p are the threads, without its own
  -- starts
  pub record IsComingTo (haystack : Text) (entries : List ℕ) (whole : Bool) (first last p : ℕ)
      (threads : List Thread) (best : Best) : Type 0 where
    pub recorded : Node → Option (List ℕ)
    pub coming : List (PendingNode Node)
    pub way : Option (List ℕ)
    pub from : ℕ
    pub in_step : InStep table haystack entries whole first last p from recorded coming [] way
    pub before : (node : Node) (own : List ℕ) → recorded node ≡ Some own → node.1 < p
    pub hold : ThreadsHold table haystack entries p threads coming
    pub best_holds : BestHolds table haystack entries best way
    pub from_is : FromIs p from best

  -- a search for all matches comes to position p
  abbrev pub IsComing : (haystack : Text) → (entries : List ℕ) → (first last p : ℕ)
      → (threads : List Thread) → Best → Type 0
  IsComing haystack entries = IsComingTo haystack entries false

  -- the memory of a search between two positions
  pub record IsReady (memory : State) (best : BestState) (counts : StepCounts) : Type 0 where
    pub all_seen : length memory.entered ≡ length table
    pub cap : reading_of table < memory.room
    pub few : length memory.threads ≤ reading_of table
    pub below : ThreadsBelow (length table) memory.threads
    pub none_next : memory.next ≡ []
    pub stack_room : stack_bound_of table < length table
    pub stack_empty : memory.frames ≡ []
    pub best_width : length best.row ≡ length memory.row
    pub entered_tried : counts.entered ≤ counts.tried
    pub looked_entered : counts.looked ≤ counts.entered
    pub match_entered : (best_of best ≡ None → ⊥) → 0 < counts.entered

-- the threads that begin at a position; `reported` says what is kept of the start, by the number of
-- the pattern
abbrev pub begun : (reported : ℕ → Reported) → Row → List Start → List Thread
begun reported blank [] = []
begun reported blank (start ∷ starts) =
    (start.place, reported start.number, blank) ∷ begun reported blank starts

-- the threads, and the position's own starts after them unless they are left out
abbrev pub with_starts : List Start → (reported : ℕ → Reported) → Best → (width : ℕ) → List Thread
    → List Thread
with_starts starts reported None width threads = threads ++ begun reported (replicate width None)
    starts
with_starts starts reported (Some best) width threads = threads
