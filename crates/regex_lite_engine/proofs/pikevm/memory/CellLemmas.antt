-- What a change of one cell changes.
use Rattle.regex_lite_engine.proofs.Common.{◌≡◌, ℕ, zero, suc, ◌+◌, ◌-◌, ◌*◌, ◌<◌, ◌≤◌, List}
use Rattle.regex_lite_engine.proofs.Common.{[], ◌∷◌, ◌++◌, map, reverse, length, take, set}
use Rattle.regex_lite_engine.proofs.Common.{slice_index_or, sym, refl, ap, ◌∙◌}
use Rattle.regex_lite_engine.proofs.Common.{arith, length-map, length-take-le, map-set}
use Rattle.regex_lite_engine.proofs.Common.{frame_in, other, place_on, start_on, row_on}
use Rattle.regex_lite_engine.proofs.Common.{Thread, Row, Cell}
use Rattle.std.proofs.Math.Seq.{map-set_same}
use Rattle.std.proofs.lemmas.List.{length-reverse, reverse-append, take_more, take_more_set}
use Rattle.regex_lite_engine.specs.declared.pikevm.cell.Job as code
use Rattle.regex_lite_engine.specs.declared.pikevm.cell.Side.{Side}
use Rattle.regex_lite_engine.specs.declared.pikevm.cell.Side.TheVariants.{First, Second}
use Rattle.regex_lite_engine.specs.Pikevm.Cells.{frames_in, with_thread}
use Rattle.regex_lite_engine.specs.Pikevm.Machine.{Job, State}

-- a cell with a thread more
module _ {S : Type 0} (place : ℕ) (start : S) (x : Cell S) where
  pub same_frame : (s : Side) → frame_in (with_thread s place start x) ≡ frame_in x
  same_frame First = refl
  same_frame Second = refl

  pub own_place : (s : Side) → place_on s (with_thread s place start x) ≡ place
  own_place First = refl
  own_place Second = refl

  pub own_start : (s : Side) → start_on s (with_thread s place start x) ≡ start
  own_start First = refl
  own_start Second = refl

  pub other_place : (s t : Side) → t ≡ other s
      → place_on t (with_thread s place start x) ≡ place_on t x
  other_place First First e = cc
  other_place First Second e = refl
  other_place Second First e = refl
  other_place Second Second e = cc

  pub other_start : (s t : Side) → t ≡ other s
      → start_on t (with_thread s place start x) ≡ start_on t x
  other_start First First e = cc
  other_start First Second e = refl
  other_start Second First e = refl
  other_start Second Second e = cc

pub back : (s : Side) → s ≡ other (other s)
back First = refl
back Second = refl

-- the rows of threads
pub row_apart : (s t : Side) (room j k : ℕ) → t ≡ other s → j < room → k < room
    → row_on t j ≡ row_on s k → ⊥
row_apart First First room j k e lt lt' same = cc
row_apart First Second room j k e lt lt' same = omega (arith, lt, lt', same)
row_apart Second First room j k e lt lt' same = omega (arith, lt, lt', same)
row_apart Second Second room j k e lt lt' same = cc

pub row_fits : (s : Side) (room k : ℕ) → k < room → row_on s k < 2 * room + 1
row_fits First room k lt = omega (arith, lt)
row_fits Second room k lt = omega (arith, lt)

pub row_after_first : (s : Side) (room k : ℕ) → row_on s k ≡ 0 → ⊥
row_after_first First room k e = omega (arith, e)
row_after_first Second room k e = omega (arith, e)

pub row_other : (s : Side) (j k : ℕ) → j < k → row_on s j ≡ row_on s k → ⊥
row_other First j k lt e = omega (arith, lt, e)
row_other Second j k lt e = omega (arith, lt, e)

-- what does not distinguish the new cell from the old one
pub not_reported : {S X : Type 0} (f : Cell S → X) (cells : List (Cell S)) (i : ℕ) (x y : Cell S)
    → x ≡ slice_index_or cells i x → f y ≡ f x → map f (set cells i y) ≡ map f cells
not_reported f cells i x y is e = map-set_same f cells i y x (e ∙ ap f is)

pub reported_at : {S X : Type 0} (f : Cell S → X) (d : X) (cells : List (Cell S)) (k : ℕ)
    (x : Cell S) → k < length cells → x ≡ slice_index_or cells k x → slice_index_or (map f cells) k
    d ≡ f x
reported_at f d [] k x lt is = absurd (omega (arith, lt))
reported_at f d (y ∷ cells) zero x lt is = ap f (sym is)
reported_at f d (y ∷ cells) (suc k) x lt is = reported_at f d cells k x (omega (arith, lt)) is

-- the frames
pub frame_put : {S : Type 0} (cells : List (Cell S)) (depth : ℕ) (y : Cell S) → depth < length cells
    → frames_in (set cells depth y) (depth + 1) ≡ frame_in y ∷ frames_in cells depth
frame_put cells depth y fits =
    ap (λ fs. reverse (take (depth + 1) fs)) (map-set frame_in cells depth y)
    ∙ ap reverse (take_more_set (map frame_in cells) depth (frame_in y)
    (omega (arith, fits, length-map cells frame_in)))
    ∙ reverse-append (take depth (map frame_in cells)) (frame_in y ∷ [])

pub frame_taken : {S : Type 0} (cells : List (Cell S)) (depth : ℕ) (x : Cell S) → 0 < depth
    → depth ≤ length cells → x ≡ slice_index_or cells (depth - 1) x
    → frames_in cells depth ≡ frame_in x ∷ frames_in cells (depth - 1)
frame_taken cells depth x some fits is =
    let last : depth ≡ depth - 1 + 1 = omega (arith, some) in
    let lt : depth - 1 < length cells = omega (arith, some, fits) in
    ap (λ n. reverse (take n (map frame_in cells))) last
    ∙ ap reverse (take_more (map frame_in cells) (depth - 1) (frame_in x)
    (omega (arith, lt, length-map cells frame_in)))
    ∙ ap (λ f. reverse (take (depth - 1) (map frame_in cells) ++ f ∷ []))
    (reported_at frame_in (frame_in x) cells (depth - 1) x lt is)
    ∙ reverse-append (take (depth - 1) (map frame_in cells)) (frame_in x ∷ [])

pub frames_long : {S : Type 0} (cells : List (Cell S)) (depth : ℕ) → depth ≤ length cells
    → length (frames_in cells depth) ≡ depth
frames_long cells depth le =
    length-reverse (take depth (map frame_in cells))
    ∙ length-take-le depth (map frame_in cells) (omega (arith, le, length-map cells frame_in))

-- a state in which these parts are the same
pub state_with : (m : State) {frames : List Job} {row : Row} {threads next : List Thread}
    → frames ≡ m.frames → row ≡ m.row → threads ≡ m.threads → next ≡ m.next →
    record m { frames = frames; row = row; threads = threads; next = next } ≡ m
state_with m {row = row} {threads} {next} ef ew et en =
    ap (λ z. record m { frames = z; row = row; threads = threads; next = next }) ef
    ∙ ap (λ z. record m { row = z; threads = threads; next = next }) ew
    ∙ ap (λ z. record m { threads = z; next = next }) et
    ∙ ap (λ z. record m { next = z }) en

-- what a cell whose frame is written over keeps of its threads
pub with_frame : {S : Type 0} (s : Side) (x : Cell S) (frame : code.Job)
    → (place_on s (record x { frame = frame }) ≡ place_on s x)
    × (start_on s (record x { frame = frame }) ≡ start_on s x)
with_frame First x frame = (refl, refl)
with_frame Second x frame = (refl, refl)
