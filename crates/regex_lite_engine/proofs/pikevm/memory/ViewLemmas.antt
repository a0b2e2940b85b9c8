-- What a memory stands for, where its parts are written or it gets more cells.
use Rattle.regex_lite_engine.proofs.Common.{◌∷◌, ◌++◌, reverse, length, take, set, slice_index_or}
use Rattle.regex_lite_engine.proofs.Common.{sym, refl, ap, ◌∙◌, nth_row, other, place_on, start_on}
use Rattle.regex_lite_engine.proofs.Common.{Reported, vec_capacity, Row, Cell, ◌≡◌, ℕ, ◌+◌, ◌<◌}
use Rattle.regex_lite_engine.proofs.Common.{List, [], row_on, threads_on, Thread}
use Rattle.regex_lite_engine.specs.declared.pikevm.cell.Side.{Side}
use Rattle.regex_lite_engine.specs.declared.pikevm.memory.Memory.TheInside.{Inside}
use Rattle.regex_lite_engine.specs.Pikevm.Cells.{frames_in, with_thread, Continues, HoldTogether}
use Rattle.regex_lite_engine.specs.Pikevm.Machine.{Job, State}
use Rattle.regex_lite_engine.proofs.pikevm.memory.CellLemmas.{back, frames_long}
use Rattle.regex_lite_engine.proofs.pikevm.memory.CellLemmas.{state_with}
use Rattle.regex_lite_engine.proofs.pikevm.memory.ListLemmas.{list_grown, list_kept, threads_kept}
use Rattle.regex_lite_engine.proofs.pikevm.memory.ListLemmas.{threads_long}
use Rattle.regex_lite_engine.proofs.pikevm.memory.TogetherLemmas.{frames_stay, threads_stay}

-- what a memory with these parts stands for
abbrev stands : {S : Type 0} → (S → Reported) → Inside S → State
stands reported i = record {
  entered = i.entered;
  frames = frames_in i.cells.items i.depth;
  row = nth_row i.rows 0;
  threads = threads_on reported i.side i.cells.items i.rows i.room i.len;
  next = threads_on reported (other i.side) i.cells.items i.rows i.room i.next_len;
  room = i.room;
}

module _ {S : Type 0} (reported : S → Reported) (i : Inside S) {m : State}
    (is : stands reported i ≡ m)
    (fit : HoldTogether i.cells.items (vec_capacity i.cells) (length i.entered) i.rows i.room
    i.depth i.len i.next_len) where
  abbrev threads_in : List (Cell S) → List Row → List Thread
  threads_in cells rows = threads_on reported i.side cells rows i.room i.len

  abbrev next_in : List (Cell S) → List Row → List Thread
  next_in cells rows = threads_on reported (other i.side) cells rows i.room i.next_len

  -- what is counted of it
  pub counted : (length m.entered ≡ length i.entered) × (length m.frames ≡ i.depth)
      × (length m.threads ≡ i.len) × (length m.next ≡ i.next_len)
  counted = (
    sym (ap (λ (z : State). length z.entered) is),
    sym (ap (λ (z : State). length z.frames) is) ∙ frames_long i.cells.items i.depth fit.frames_fit,
    sym (ap (λ (z : State). length z.threads) is)
        ∙ threads_long reported i.side i.cells.items i.rows i.room i.len,
    sym (ap (λ (z : State). length z.next) is)
        ∙ threads_long reported (other i.side) i.cells.items i.rows i.room i.next_len,
  )

  -- the same where the first row is replaced
  pub stands_put : {rows' : List Row} (row : Row) {row' : Row} → rows' ≡ set i.rows 0 row
      → nth_row rows' 0 ≡ row'
      → record (stands reported i) {
        row = nth_row rows' 0;
        threads = threads_in i.cells.items rows';
        next = next_in i.cells.items rows';
      } ≡ record m { row = row' }
  stands_put {rows'} row {row'} put first =
      state_with (record (stands reported i) { row = row' }) refl first
      (list_kept i.rows rows' row put reported i.side i.cells.items i.room i.len)
      (list_kept i.rows rows' row put reported (other i.side) i.cells.items i.room i.next_len)
      ∙ ap (λ (z : State). record z { row = row' }) is

  -- where there are more cells
  module _ {cells' : List (Cell S)} (more : Continues i.cells.items cells') where
    threads_made : threads_in cells' i.rows ≡ threads_in i.cells.items i.rows
    threads_made = threads_stay more reported i.side i.rows i.room fit.threads_fit

    next_made : next_in cells' i.rows ≡ next_in i.cells.items i.rows
    next_made = threads_stay more reported (other i.side) i.rows i.room fit.next_fit

    -- and one of them is written over, which has the threads that it had
    pub stands_set : (k : ℕ) {x : Cell S} (y : Cell S) → x ≡ slice_index_or cells' k x
        → ((s : Side) → (place_on s y ≡ place_on s x) × (start_on s y ≡ start_on s x))
        → (depth' : ℕ) {frames' : List Job} → frames_in (set cells' k y) depth' ≡ frames'
        → record (stands reported i) {
          frames = frames_in (set cells' k y) depth';
          threads = threads_in (set cells' k y) i.rows;
          next = next_in (set cells' k y) i.rows;
        } ≡ record m { frames = frames' }
    stands_set k {x} y at same depth' {frames'} frames =
        state_with (record (stands reported i) { frames = frames' }) frames refl
        (threads_kept reported i.side cells' i.rows i.room i.len k x y at (same i.side)
        ∙ threads_made)
        (threads_kept reported (other i.side) cells' i.rows i.room i.next_len k x y at
        (same (other i.side)) ∙ next_made)
        ∙ ap (λ (z : State). record z { frames = frames' }) is

    -- and one of them gets a thread of the next position
    pub stands_grown : (place : ℕ) (start : S) {x y : Cell S} {rows' : List Row}
        → x ≡ slice_index_or cells' i.next_len x → y ≡ with_thread (other i.side) place start x
        → rows' ≡ set i.rows (row_on (other i.side) i.next_len) (nth_row i.rows 0)
        → i.next_len < i.room → i.next_len < length cells' →
        record (stands reported i) {
          frames = frames_in (set cells' i.next_len y) i.depth;
          row = nth_row rows' 0;
          threads = threads_in (set cells' i.next_len y) rows';
          next = threads_on reported (other i.side) (set cells' i.next_len y) rows' i.room
              (i.next_len + 1);
        } ≡ record m { next = m.next ++ (place, reported start, m.row) ∷ [] }
    stands_grown place start {y = y} at written copied few fits =
        let w = list_grown reported (other i.side) cells' i.rows place start (nth_row i.rows 0)
        (back i.side) at written copied few fit.threads_few fits fit.rows_fit in
        state_with (record (stands reported i) {
          next = next_in i.cells.items i.rows ++ (place, reported start, nth_row i.rows 0) ∷ [];
        })
        (ap (λ fs. reverse (take i.depth fs)) w.frames ∙ frames_stay more fit.frames_fit) w.first
        (w.others ∙ threads_made)
        (w.own ∙ ap (λ ts. ts ++ (place, reported start, nth_row i.rows 0) ∷ []) next_made)
        ∙ ap (λ (z : State). record z { next = z.next ++ (place, reported start, z.row) ∷ [] }) is
