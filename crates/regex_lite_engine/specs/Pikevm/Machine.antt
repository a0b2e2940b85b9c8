-- The state of the PikeVM at one position.
use Rattle.std.specs.Prelude.{ℕ, Bool, List, [], ◌∷◌, Option, slice_index_or, slice_set}
use Rattle.regex_lite_engine.specs.Search.ThreadStarts.{Reported, no_start}
use Rattle.regex_lite_engine.specs.Search.Rows.{Row}

-- A frame of the stack: to explore a place, or to restore the content of a slot
pub data Job : Type 0 where
  explore : (place : ℕ) → Job
  restore : (slot : ℕ) → (old : Option ℕ) → Job

-- The stack and the row, once all frames above the next place are popped: the slots are restored
abbrev pub restored : Row → List Job → Row × List Job
restored row [] = (row, [])
restored row (explore place ∷ frames) = (row, explore place ∷ frames)
restored row (restore slot old ∷ frames) = restored (slice_set row slot old) frames

-- a place, what is kept of the thread's start, and a row
abbrev pub Thread : Type 0
Thread = ℕ × Reported × Row

-- the thread with this number
abbrev pub thread_at : List Thread → ℕ → Thread
thread_at threads k = slice_index_or threads k (0, no_start, [])

-- the state that the working memory of a search stands for
pub record State : Type 0 where
  -- whether each place was entered at this position
  pub entered : List Bool
  -- the stack, the top frame first
  pub frames : List Job
  -- the row of the current path
  pub row : Row
  -- the threads of this position, and those of the next
  pub threads : List Thread
  pub next : List Thread
  -- the greatest number of threads in each list
  pub room : ℕ

-- the best match: what is kept of its start, and the offset of its end; its row, or the row of an
-- earlier match
pub record BestState : Type 0 where
  pub found : Option (Reported × ℕ)
  pub row : Row
