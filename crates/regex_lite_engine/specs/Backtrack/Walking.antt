-- The invariants of the bounded backtracker.
use Rattle.std.specs.Prelude.{◌≡◌, ◌≤◌, ◌<◌, ℕ, true, List, []}
use Rattle.std.specs.Prelude.{◌∷◌, length, slice_set, Option, Some}
use Rattle.regex_lite_syntax.specs.Text.{Text}
use Rattle.regex_lite_syntax.specs.Tree.Matches.{IsPosition}
use Rattle.regex_lite_engine.specs.Backtrack.DepthFirst.{IsDepthFirst}
use Rattle.regex_lite_engine.specs.Backtrack.Machine.{Frame, explore, restore, Held, Pairs}
use Rattle.regex_lite_engine.specs.Backtrack.Machine.{was_entered}
use Rattle.regex_lite_engine.specs.Graph.Places.{Place}
use Rattle.regex_lite_engine.specs.Search.Offsets.{offset, IsOffset, HasSlots}
use Rattle.regex_lite_engine.specs.Search.Marks.{marks_along}
use Rattle.regex_lite_engine.specs.Graph.Ways.{Leads}
use Rattle.regex_lite_engine.specs.Search.Pending.{PendingNode, Node}
use Rattle.regex_lite_engine.specs.Search.Rows.{Row, IsBlank}
use Rattle.regex_lite_engine.specs.Search.NumberedAnswer.{place_with, numbered_step, is_end}

module _ (table : List (Place ℕ)) (haystack : Text) (entry : ℕ) where
  -- the way leads to the node from the entry at the offset `start`, and the row has what it marks
  abbrev pub WayHolds : (start : ℕ) → Row → Node → (way : List ℕ) → Type 0
  WayHolds start row node way =
      (from : ℕ) × (arrows : List ℕ) × (start ≡ offset haystack from) × (way ≡ from ∷ arrows)
      × Leads Node (numbered_step table haystack) (entry, from) arrows node
      × HasSlots haystack row (marks_along haystack (place_with table) (Some (entry, from)) arrows)

  -- The frames hold the pending nodes, the first on top. The row of each is the row when its frame
  -- is popped, and once all have been popped no slot is marked
  abbrev pub FramesHold : (start : ℕ) → Row → List Frame → List (PendingNode Node) → Type 0
  FramesHold start row [] pending = (pending ≡ []) × IsBlank row
  FramesHold start row (explore place at ∷ frames) pending =
      (p : ℕ) × (way : List ℕ) × (rest : List (PendingNode Node)) × IsOffset haystack p at
      × (pending ≡ ((place, p), way) ∷ rest) × WayHolds start row (place, p) way
      × FramesHold start row frames rest
  FramesHold start row (restore slot old ∷ frames) pending =
      FramesHold start (slice_set row slot old) frames pending

-- A search from position `first` on, for the pattern with this entry. The starts below position
-- `from` were added, and the ways from the start at the offset i are followed
pub record SearchFrom : Type 0 where
  pub haystack : Text
  pub entry : ℕ
  pub first : ℕ
  pub from : ℕ
  pub i : ℕ

-- the stack holds the pending nodes of that start
pub record IsWalking (table : List (Place ℕ)) (search : SearchFrom) (pairs : Pairs) (held : Held)
    : Type 0 where
  pub recorded : Node → Option (List ℕ)
  pub pending : List (PendingNode Node)
  pub depth_first : IsDepthFirst Node (numbered_step table search.haystack)
      (λ p. (search.entry, p)) (is_end table search.haystack) search.first
      (length search.haystack) search.from recorded pending
  -- exactly the pairs with a recorded way were entered
  pub seen : (place p : ℕ) (way : List ℕ) → recorded (place, p) ≡ Some way
      → was_entered pairs place (offset search.haystack p) ≡ true
  pub met : (place p : ℕ) → place < length table → search.first ≤ p → IsPosition search.haystack p
      → was_entered pairs place (offset search.haystack p) ≡ true
      → (way : List ℕ) × (recorded (place, p) ≡ Some way)
  pub frames_hold : FramesHold table search.haystack search.entry search.i held.row held.frames
      pending
