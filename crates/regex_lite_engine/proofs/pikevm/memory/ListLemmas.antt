-- What a change of cells and rows changes of the lists of threads.
use Rattle.regex_lite_engine.proofs.Common.{◌≡◌, ℕ, ◌+◌, ◌*◌, ◌<◌, ◌≤◌, List, [], ◌∷◌, ◌++◌, map}
use Rattle.regex_lite_engine.proofs.Common.{length, set, slice_index, slice_index_or, sym, ap, ◌∙◌}
use Rattle.regex_lite_engine.proofs.Common.{arith, get_or-set_other, get_or-set_same, length-map}
use Rattle.regex_lite_engine.proofs.Common.{map-set, get_or-map-range_with_len}
use Rattle.regex_lite_engine.proofs.Common.{length-map-range_with_len, nth_row, frame_in}
use Rattle.regex_lite_engine.proofs.Common.{other, place_on, start_on, row_on, threads_on, Thread}
use Rattle.regex_lite_engine.proofs.Common.{thread_at, Reported, no_start, Row, Cell}
use Rattle.regex_lite_engine.specs.Pikevm.Cells.{start_reported, with_thread, thread_on}
use Rattle.std.proofs.lemmas.List.FromFn.{map-range_with_len_more}
use Rattle.regex_lite_engine.specs.declared.pikevm.cell.Side.{Side}
use Rattle.regex_lite_engine.proofs.pikevm.memory.CellLemmas.{own_place, own_start, other_place}
use Rattle.regex_lite_engine.proofs.pikevm.memory.CellLemmas.{other_start, row_apart, row_other}
use Rattle.regex_lite_engine.proofs.pikevm.memory.CellLemmas.{row_fits, row_after_first}
use Rattle.regex_lite_engine.proofs.pikevm.memory.CellLemmas.{not_reported, same_frame, reported_at}
use Rattle.regex_lite_engine.proofs.pikevm.rows.RowLemmas.{listed_alike}

pub threads_long : {S : Type 0} (reported : S → Reported) (s : Side) (cells : List (Cell S))
    (rows : List Row) (room n : ℕ)
    → length (threads_on reported s cells rows room n) ≡ n
threads_long reported s cells rows room n =
    length-map-range_with_len (thread_on reported s cells rows room) 0 n

pub thread_is : {S : Type 0} (reported : S → Reported) (s : Side) (cells : List (Cell S))
    (rows : List Row) (room n k : ℕ)
    → k < n → thread_at (threads_on reported s cells rows room n) k ≡ thread_on reported s cells
    rows room k
thread_is reported s cells rows room n k lt =
    get_or-map-range_with_len (thread_on reported s cells rows room) 0 n k k (0, no_start, []) lt
    (omega arith)

-- cells that a list does not distinguish
pub cells_alike : {S : Type 0} (reported : S → Reported) (s : Side) (cells cells' : List (Cell S))
    (rows : List Row) (room n : ℕ)
    → map (place_on s) cells' ≡ map (place_on s) cells
    → map (start_reported reported s) cells' ≡ map (start_reported reported s) cells →
    threads_on reported s cells' rows room n ≡ threads_on reported s cells rows room n
cells_alike reported s cells cells' rows room n ep es =
    listed_alike (thread_on reported s cells' rows room) (thread_on reported s cells rows room) 0 n
    (λ k low lt. (let a = ap (λ ps. slice_index ps k) ep in
    let b = ap (λ ss. slice_index_or ss k no_start) es in cc))

-- the row of the way that is followed belongs to no thread
pub first_row_alone : {S : Type 0} (reported : S → Reported) (s : Side) (cells : List (Cell S))
    (rows : List Row) (room n : ℕ) (row : Row)
    → threads_on reported s cells (set rows 0 row) room n ≡ threads_on reported s cells rows room n
first_row_alone reported s cells rows room n row =
    listed_alike (thread_on reported s cells (set rows 0 row) room)
    (thread_on reported s cells rows room) 0 n
    (λ k low lt. (let a : nth_row (set rows 0 row) (row_on s k) ≡ nth_row rows (row_on s k) =
    get_or-set_other rows 0 (row_on s k) row [] (row_after_first s room k) in cc))

-- that row is replaced
module _ (rows rows' : List Row) (row : Row) (put : rows' ≡ set rows 0 row) where
  pub first_put : 0 < length rows → nth_row rows' 0 ≡ row
  first_put some = ap (λ z. nth_row z 0) put ∙ get_or-set_same rows 0 row [] some

  pub list_kept : {S : Type 0} (reported : S → Reported) (s : Side) (cells : List (Cell S))
      (room n : ℕ) → threads_on reported s cells rows' room n ≡ threads_on reported s cells rows
      room n
  list_kept reported s cells room n =
      ap (λ z. threads_on reported s cells z room n) put
      ∙ first_row_alone reported s cells rows room n row

-- a thread with its parts
thread_reported : {S : Type 0} (reported : S → Reported) {a p : ℕ} {b : Reported} {s : S}
    {row : Row} {is : ℕ × S}
    → a ≡ p → b ≡ reported s → is ≡ (p, s) → ◌≡◌ {A = Thread} (a, b, row) (is.0, reported is.1, row)
thread_reported reported ea eb et = cc

-- what is read of a thread: its place, and what is kept of where its way began
pub thread_read : {S : Type 0} (reported : S → Reported) (s : Side) (cells : List (Cell S))
    (rows : List Row) (room : ℕ) {n k : ℕ} {x : Cell S} {ts : List Thread} {read : ℕ × S}
    → k < n → k < length cells → x ≡ slice_index_or cells k x
    → threads_on reported s cells rows room n ≡ ts → read ≡ (place_on s x, start_on s x) →
    thread_at ts k ≡ (read.0, reported read.1, nth_row rows (row_on s k))
thread_read reported s cells rows room {n} {k} {x} lt short at are is =
    ap (λ z. thread_at z k) (sym are)
    ∙ thread_is reported s cells rows room n k lt
    ∙ thread_reported reported (reported_at (place_on s) 0 cells k x short at)
    (reported_at (start_reported reported s) no_start cells k x short at) is

module _ {S : Type 0} (reported : S → Reported) (s : Side) (cells : List (Cell S)) (rows : List Row)
    (room n place : ℕ) (start : S) (x : Cell S) (row : Row) (is : x ≡ slice_index_or cells n x)
    (lt : n < room) (fits : n < length cells) (all : length rows ≡ 2 * room + 1) where
  -- the list has a thread more
  pub thread_added : threads_on reported s (set cells n (with_thread s place start x))
      (set rows (row_on s n) row) room (n + 1)
      ≡ threads_on reported s cells rows room n ++ (place, reported start, row) ∷ []
  thread_added =
      let c2 = set cells n (with_thread s place start x) in let r2 = set rows (row_on s n) row in
      let last : thread_on reported s c2 r2 room n ≡ (place, reported start, row) = (
      let p : slice_index (map (place_on s) c2) n ≡ place =
      ap (λ ps. slice_index ps n) (map-set (place_on s) cells n (with_thread s place start x))
      ∙ get_or-set_same (map (place_on s) cells) n (place_on s (with_thread s place start x)) 0
      (omega (arith, fits, length-map cells (place_on s)))
      ∙ own_place place start x s in
      let t : slice_index_or (map (start_reported reported s) c2) n no_start ≡ reported start =
      ap (λ ps. slice_index_or ps n no_start)
      (map-set (start_reported reported s) cells n (with_thread s place start x))
      ∙ get_or-set_same (map (start_reported reported s) cells) n
      (start_reported reported s (with_thread s place start x)) no_start
      (omega (arith, fits, length-map cells (start_reported reported s)))
      ∙ ap reported (own_start place start x s) in
      let r : nth_row r2 (row_on s n) ≡ row =
      get_or-set_same rows (row_on s n) row [] (omega (arith, row_fits s room n lt, all)) in
      cc
      ) in
      map-range_with_len_more (thread_on reported s c2 r2 room) 0 n n (omega arith)
      ∙ ap (λ t. threads_on reported s c2 r2 room n ++ t ∷ []) last
      ∙ ap (λ ts. ts ++ (place, reported start, row) ∷ [])
      (listed_alike (thread_on reported s c2 r2 room) (thread_on reported s cells rows room) 0 n
      (λ k low below. earlier k (omega (arith, below))))
    where
      earlier : (k : ℕ) → k < n
          → thread_on reported s (set cells n (with_thread s place start x))
          (set rows (row_on s n) row) room k
          ≡ thread_on reported s cells rows room k
      earlier k below =
          let p : slice_index (map (place_on s) (set cells n (with_thread s place start x))) k
          ≡ slice_index (map (place_on s) cells) k =
          ap (λ ps. slice_index ps k) (map-set (place_on s) cells n (with_thread s place start x))
          ∙ get_or-set_other (map (place_on s) cells) n k
          (place_on s (with_thread s place start x)) 0 (λ e. omega (arith, e, below)) in
          let t : slice_index_or
          (map (start_reported reported s) (set cells n (with_thread s place start x))) k no_start
          ≡ slice_index_or (map (start_reported reported s) cells) k no_start =
          ap (λ ps. slice_index_or ps k no_start)
          (map-set (start_reported reported s) cells n (with_thread s place start x))
          ∙ get_or-set_other (map (start_reported reported s) cells) n k
          (start_reported reported s (with_thread s place start x)) no_start
          (λ e. omega (arith, e, below)) in
          let r : nth_row (set rows (row_on s n) row) (row_on s k) ≡ nth_row rows (row_on s k) =
          get_or-set_other rows (row_on s n) (row_on s k) row [] (row_other s k n below) in
          cc

  -- and the other has the same
  pub others_kept : (t : Side) (m : ℕ) → t ≡ other s → m ≤ room
      → threads_on reported t (set cells n (with_thread s place start x))
      (set rows (row_on s n) row) room m
      ≡ threads_on reported t cells rows room m
  others_kept t m e le =
      let c2 = set cells n (with_thread s place start x) in
      cells_alike reported t cells c2 (set rows (row_on s n) row) room m
      (not_reported (place_on t) cells n x (with_thread s place start x) is
      (other_place place start x s t e))
      (not_reported (start_reported reported t) cells n x (with_thread s place start x) is
      (ap reported (other_start place start x s t e)))
      ∙ listed_alike (thread_on reported t cells (set rows (row_on s n) row) room)
      (thread_on reported t cells rows room) 0 m
      (λ k low below. (
      let r : nth_row (set rows (row_on s n) row) (row_on t k) ≡ nth_row rows (row_on t k) =
      get_or-set_other rows (row_on s n) (row_on t k) row []
      (row_apart s t room k n e (omega (arith, below, le)) lt) in
      cc
      ))

-- a cell in which the threads are as they were
pub threads_kept : {S : Type 0} (reported : S → Reported) (s : Side) (cells : List (Cell S))
    (rows : List Row) (room n i : ℕ) (x y : Cell S)
    → x ≡ slice_index_or cells i x → (place_on s y ≡ place_on s x) × (start_on s y ≡ start_on s x) →
    threads_on reported s (set cells i y) rows room n ≡ threads_on reported s cells rows room n
threads_kept reported s cells rows room n i x y is same =
    cells_alike reported s cells (set cells i y) rows room n
    (not_reported (place_on s) cells i x y is same.0)
    (not_reported (start_reported reported s) cells i x y is (ap reported same.1))

-- a thread is added to the list s, and the other one, t, keeps its own
pub list_grown : {S : Type 0} (reported : S → Reported) (s : Side) {t : Side}
    (cells : List (Cell S)) (rows : List Row) {rows' : List Row} {room n m : ℕ} (place : ℕ)
    (start : S) (row : Row) {x y : Cell S}
    → t ≡ other s → x ≡ slice_index_or cells n x → y ≡ with_thread s place start x
    → rows' ≡ set rows (row_on s n) row → n < room → m ≤ room → n < length cells
    → length rows ≡ 2 * room + 1 → record {
      frames : map frame_in (set cells n y) ≡ map frame_in cells;
      first : nth_row rows' 0 ≡ nth_row rows 0;
      own : threads_on reported s (set cells n y) rows' room (n + 1)
          ≡ threads_on reported s cells rows room n ++ (place, reported start, row) ∷ [];
      others : threads_on reported t (set cells n y) rows' room m
          ≡ threads_on reported t cells rows room m;
    }
list_grown reported s {t} cells rows {rows'} {room} {n} {m} place start row {x} {y} apart is
    written copied lt le fits all = record {
      frames = not_reported frame_in cells n x y is
          (ap frame_in written ∙ same_frame place start x s);
      first =
          ap (λ z. nth_row z 0) copied
          ∙ get_or-set_other rows (row_on s n) 0 row [] (λ e. row_after_first s room n (sym e));
      own =
          ap (λ z. threads_on reported s (set cells n z) rows' room (n + 1)) written
          ∙ ap (λ z. threads_on reported s (set cells n (with_thread s place start x)) z room
          (n + 1)) copied
          ∙ thread_added reported s cells rows room n place start x row is lt fits all;
      others =
          ap (λ z. threads_on reported t (set cells n z) rows' room m) written
          ∙ ap (λ z. threads_on reported t (set cells n (with_thread s place start x)) z room m)
          copied ∙ others_kept reported s cells rows room n place start x row is lt fits all t m
          apart le;
    }
