-- What stays where a memory's parts are written, or it gets more cells.
use Rattle.regex_lite_engine.proofs.Common.{◌≡◌, ℕ, ◌<◌, ◌≤◌, List, map, reverse, length, take, set}
use Rattle.regex_lite_engine.proofs.Common.{slice_index, slice_index_or, sym, ap, ◌∙◌, arith}
use Rattle.regex_lite_engine.proofs.Common.{length-set, get_or-take, length-take, take-take}
use Rattle.regex_lite_engine.proofs.Common.{frame_in, place_on, threads_on, Reported, no_start, Row}
use Rattle.regex_lite_engine.proofs.Common.{Cell}
use Rattle.regex_lite_engine.specs.Pikevm.Cells.{Continues, HoldTogether, start_reported, frames_in}
use Rattle.regex_lite_engine.specs.Pikevm.Cells.{thread_on}
use Rattle.std.proofs.lemmas.List.{take-map}
use Rattle.regex_lite_engine.specs.declared.pikevm.cell.Side.{Side}
use Rattle.regex_lite_engine.proofs.pikevm.rows.RowLemmas.{listed_alike}

-- there is room for the same where a cell is written over
pub together_set : {S : Type 0} {cells : List (Cell S)} {capacity places : ℕ} {rows : List Row}
    {room depth len next_len : ℕ} (k : ℕ) (x : Cell S)
    → HoldTogether cells capacity places rows room depth len next_len
    → HoldTogether (set cells k x) capacity places rows room depth len next_len
together_set {cells = cells} k x fit =
    let same = length-set cells k x in
    record {
      cells_fit = fit.cells_fit;
      frames_fit = omega (arith, same, fit.frames_fit);
      threads_fit = omega (arith, same, fit.threads_fit);
      next_fit = omega (arith, same, fit.next_fit);
      threads_few = fit.threads_few;
      next_few = fit.next_few;
      room_few = fit.room_few;
      rows_fit = fit.rows_fit;
    }

-- and where there are other rows, as many as before, or other frames, for which there are cells
pub together_with : {S : Type 0} {cells : List (Cell S)} {capacity places : ℕ}
    {rows rows' : List Row} {room depth depth' len next_len : ℕ} → length rows' ≡ length rows
    → depth' ≤ length cells → HoldTogether cells capacity places rows room depth len next_len
    → HoldTogether cells capacity places rows' room depth' len next_len
together_with same deep fit = record {
  cells_fit = fit.cells_fit;
  frames_fit = deep;
  threads_fit = fit.threads_fit;
  next_fit = fit.next_fit;
  threads_few = fit.threads_few;
  next_few = fit.next_few;
  room_few = fit.room_few;
  rows_fit = same ∙ fit.rows_fit;
}

-- where there are more cells
module _ {S : Type 0} {cells cells' : List (Cell S)} (more : Continues cells cells') where
  pub no_fewer : length cells ≤ length cells'
  no_fewer =
      let few = ap length more.same in
      omega (arith, few, length-take (length cells) cells')

  alike : {X : Type 0} (f : Cell S → X) → take (length cells) (map f cells') ≡ map f cells
  alike f = take-map f (length cells) cells' ∙ ap (map f) more.same

  pub still_together : {capacity capacity' places : ℕ} {rows : List Row}
      {room depth len next_len : ℕ} → capacity ≤ capacity'
      → HoldTogether cells capacity places rows room depth len next_len
      → HoldTogether cells' capacity' places rows room depth len next_len
  still_together le fit = record {
    cells_fit = omega (arith, le, fit.cells_fit);
    frames_fit = omega (arith, no_fewer, fit.frames_fit);
    threads_fit = omega (arith, no_fewer, fit.threads_fit);
    next_fit = omega (arith, no_fewer, fit.next_fit);
    threads_few = fit.threads_few;
    next_few = fit.next_few;
    room_few = fit.room_few;
    rows_fit = fit.rows_fit;
  }

  pub frames_stay : {depth : ℕ} → depth ≤ length cells
      → frames_in cells' depth ≡ frames_in cells depth
  frames_stay {depth} le =
      ap reverse (sym (take-take depth (length cells) (map frame_in cells') le)
      ∙ ap (take depth) (alike frame_in))

  pub threads_stay : (reported : S → Reported) (s : Side) (rows : List Row) (room : ℕ) {n : ℕ}
      → n ≤ length cells
      → threads_on reported s cells' rows room n ≡ threads_on reported s cells rows room n
  threads_stay reported s rows room {n} le =
      listed_alike (thread_on reported s cells' rows room) (thread_on reported s cells rows room) 0
      n (λ k low lt. here k (omega (arith, lt, le)))
    where
      here : (k : ℕ) → k < length cells
          → thread_on reported s cells' rows room k ≡ thread_on reported s cells rows room k
      here k lt =
          let p : slice_index (map (place_on s) cells') k ≡ slice_index (map (place_on s) cells) k =
          sym (get_or-take (length cells) (map (place_on s) cells') k 0 lt)
          ∙ ap (λ ps. slice_index ps k) (alike (place_on s)) in
          let t : slice_index_or (map (start_reported reported s) cells') k no_start
          ≡ slice_index_or (map (start_reported reported s) cells) k no_start =
          sym (get_or-take (length cells) (map (start_reported reported s) cells') k no_start lt)
          ∙ ap (λ ss. slice_index_or ss k no_start) (alike (start_reported reported s)) in
          cc

-- nothing is left
pub none_left : {S : Type 0} {cells : List (Cell S)} {capacity places : ℕ} {rows : List Row}
    {room depth len next_len : ℕ}
    → HoldTogether cells capacity places rows room depth len next_len
    → HoldTogether cells capacity places rows room 0 0 0
none_left fit = record {
  cells_fit = fit.cells_fit;
  frames_fit = omega arith;
  threads_fit = omega arith;
  next_fit = omega arith;
  threads_few = omega arith;
  next_few = omega arith;
  room_few = fit.room_few;
  rows_fit = fit.rows_fit;
}
