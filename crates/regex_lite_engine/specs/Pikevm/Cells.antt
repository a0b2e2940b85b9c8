-- How the working memory of a search is stored in its cells and rows.
use Rattle.std.specs.Prelude.{◌≡◌, ◌+◌, ◌-◌, ◌*◌, ◌≤◌, ◌<◌, ℕ}
use Rattle.std.specs.Prelude.{List, [], ◌++◌, take, drop, reverse, replicate}
use Rattle.std.specs.Prelude.{length, map, None, slice_index, slice_index_or, vec_capacity}
use Rattle.std.specs.Global.{Vec}
use Rattle.std.specs.List.{range_with_len}
use Rattle.regex_lite_engine.specs.declared.pikevm.cell.Cell.{Cell}
use Rattle.regex_lite_engine.specs.declared.pikevm.cell.Job as code
use Rattle.regex_lite_engine.specs.declared.pikevm.cell.Job.TheVariants as stored
use Rattle.regex_lite_engine.specs.declared.pikevm.cell.Side.{Side}
use Rattle.regex_lite_engine.specs.declared.pikevm.cell.Side.TheVariants.{First, Second}
use Rattle.regex_lite_engine.specs.Search.ThreadStarts.{Reported, no_start}
use Rattle.regex_lite_engine.specs.Pikevm.Machine.{Job, explore, restore, Thread}
use Rattle.regex_lite_engine.specs.Search.Rows.{Row}

-- row k of rows of one width that are stored one after another
abbrev pub row_at : (slots : Row) → (width k : ℕ) → Row
row_at slots width k = take width (drop (k * width) slots)

-- the slots, extended with slots that hold nothing
abbrev pub padded : Row → (size : ℕ) → Row
padded slots size = slots ++ replicate (size - length slots) None

-- there is room for this many rows of this width, and the first is stored
pub record AreRows (slots : Row) (capacity width count : ℕ) : Type 0 where
  pub within : length slots ≤ count * width
  pub fitting : count * width ≤ capacity
  pub first : 0 < count → width ≤ length slots

abbrev pub rows_in : (slots : Row) → (width count : ℕ) → List Row
rows_in slots width count = map (row_at slots width) (range_with_len 0 count)

-- the row with this number
abbrev pub nth_row : List Row → ℕ → Row
nth_row rows k = slice_index_or rows k []

-- the frame that a stored frame stands for
abbrev pub frame_of : code.Job → Job
frame_of (stored.Explore place) = explore place
frame_of (stored.Restore slot old) = restore slot old

abbrev pub frame_in : {S : Type 0} → Cell S → Job
frame_in cell = frame_of cell.frame

-- the frames of the first cells, the last one on top
abbrev pub frames_in : {S : Type 0} → List (Cell S) → (depth : ℕ) → List Job
frames_in cells depth = reverse (take depth (map frame_in cells))

abbrev pub other : Side → Side
other First = Second
other Second = First

-- the place of the thread in one list or the other
abbrev pub place_on : {S : Type 0} → Side → Cell S → ℕ
place_on First cell = cell.first_place
place_on Second cell = cell.second_place

abbrev pub start_on : {S : Type 0} → Side → Cell S → S
start_on First cell = cell.first_start
start_on Second cell = cell.second_start

abbrev pub with_thread : {S : Type 0} → Side → (place : ℕ) → (start : S) → Cell S → Cell S
with_thread First place start cell =
    record cell { first_place = place; first_start = start }
with_thread Second place start cell =
    record cell { second_place = place; second_start = start }

-- the number of a thread's row: row 0 is that of the current path, and then the rows of both lists
-- alternate, so that few threads need only the first rows
abbrev pub row_on : Side → (k : ℕ) → ℕ
row_on First k = 2 * k + 1
row_on Second k = 2 * k + 2

-- what the thread keeps of its start
abbrev pub start_reported : {S : Type 0} → (S → Reported) → Side → Cell S → Reported
start_reported reported side cell = reported (start_on side cell)

module _ {S : Type 0} (reported : S → Reported) (side : Side) (cells : List (Cell S))
    (rows : List Row) (room : ℕ) where
  abbrev pub thread_on : ℕ → Thread
  thread_on k = (
    slice_index (map (place_on side) cells) k,
    slice_index_or (map (start_reported reported side) cells) k no_start,
    nth_row rows (row_on side k),
  )

  -- the first n threads of the list
  abbrev pub threads_on : (n : ℕ) → List Thread
  threads_on n = map thread_on (range_with_len 0 n)

-- the memory is consistent, and there is room for a cell for each place
pub record HoldTogether {S : Type 0} (cells : List (Cell S)) (capacity places : ℕ)
    (rows : List Row) (room depth len next_len : ℕ) : Type 0 where
  pub cells_fit : places ≤ capacity
  pub frames_fit : depth ≤ length cells
  pub threads_fit : len ≤ length cells
  pub next_fit : next_len ≤ length cells
  pub threads_few : len ≤ room
  pub next_few : next_len ≤ room
  pub room_few : room ≤ places
  pub rows_fit : length rows ≡ 2 * room + 1

-- cells may be added, and the cells of before are the same
pub record Continues {S : Type 0} (before after : List (Cell S)) : Type 0 where
  pub same : take (length before) after ≡ before

-- there is room for at least as many elements as before
abbrev pub KeepsCapacity : {X : Type 0} → (before after : Vec X) → Type 0
KeepsCapacity before after = vec_capacity before ≤ vec_capacity after
