-- What a step of a search keeps of the working memory.
use Rattle.regex_lite_engine.proofs.Common.{◌≡◌, ℕ, ◌+◌, ◌≤◌, [], length, slice_set, ap, ◌∙◌, arith}
use Rattle.regex_lite_engine.proofs.Common.{length-set, false, replicate, true}
use Rattle.regex_lite_engine.specs.Pikevm.Machine.{State}
use Rattle.regex_lite_engine.specs.Pikevm.Capacity.{KeepsPosition}

-- a search comes to a position
pub record BeginsPosition (old new : State) : Type 0 where
  pub entered : new.entered ≡ replicate (length old.entered) false
  pub frames : new.frames ≡ old.frames
  pub row : new.row ≡ old.row
  pub threads : new.threads ≡ old.threads
  pub next : new.next ≡ old.next

pub begins_position : (old new : State)
    → new ≡ record old { entered = replicate (length old.entered) false }
    → BeginsPosition old new
begins_position old new is = record {
  entered = ap (λ (z : State). z.entered) is;
  frames = ap (λ (z : State). z.frames) is;
  row = ap (λ (z : State). z.row) is;
  threads = ap (λ (z : State). z.threads) is;
  next = ap (λ (z : State). z.next) is;
}

-- the threads of the next position become those of this one
pub swaps_lists : (old new : State) → new ≡ record old { threads = old.next; next = [] }
    → new.threads ≡ old.next
swaps_lists old new is = ap (λ (z : State). z.threads) is

-- only the row and what is left to do change
pub record KeepsThreads (old new : State) : Type 0 where
  pub threads : new.threads ≡ old.threads
  pub next : new.next ≡ old.next
  pub room : new.room ≡ old.room

pub keeps_threads : (old new : State) → new ≡ record old { row = new.row; frames = new.frames }
    → KeepsThreads old new
keeps_threads old new is = record {
  threads = ap (λ (z : State). z.threads) is;
  next = ap (λ (z : State). z.next) is;
  room = ap (λ (z : State). z.room) is;
}

-- the row changes where nothing is left to do
pub takes_up : (old new : State) → new ≡ record old { row = new.row } → old.frames ≡ []
    → new ≡ record old { row = new.row; frames = [] }
takes_up old new is none = is ∙ ap (λ fs. record old { row = new.row; frames = fs }) none

-- where a place is marked as entered, what fits before it fits after it
pub still_fits : (q : ℕ) (old new : State)
    → new ≡ record old { entered = slice_set old.entered q true } → (more : ℕ)
    → length old.frames + more ≤ length old.entered → length new.frames + more ≤ length new.entered
still_fits q old new added more le =
    let long = ap (λ (z : State). length z.entered) added ∙ length-set old.entered q true in
    let high = ap (λ (z : State). length z.frames) added in
    omega (arith, le, long, high)

-- with the row, the frames and the threads of the next position that it has later
pub later_same : (q : ℕ) (old new later : State)
    → new ≡ record old { entered = slice_set old.entered q true }
    → later ≡ record new { row = later.row; frames = later.frames; next = later.next }
    → later ≡ record old {
      entered = slice_set old.entered q true;
      row = later.row;
      frames = later.frames;
      next = later.next;
    }
later_same q old new later added same =
    same
    ∙ ap (λ (z : State). record z { row = later.row; frames = later.frames; next = later.next })
    added

-- so the position is kept where the row stays as long
pub keeps_position : (q : ℕ) (old new later : State)
    → new ≡ record old { entered = slice_set old.entered q true }
    → later ≡ record new { row = later.row; frames = later.frames; next = later.next }
    → length later.row ≡ length new.row → KeepsPosition old later
keeps_position q old new later added same wide =
    let is = later_same q old new later added same in record {
      threads = ap (λ (z : State). z.threads) is;
      room = ap (λ (z : State). z.room) is;
      row = wide ∙ ap (λ (z : State). length z.row) added;
    }

-- the position is still kept when all frames are dropped
pub keeps_dropped : (old later dropped : State) → dropped ≡ record later { frames = [] }
    → KeepsPosition old later → KeepsPosition old dropped
keeps_dropped old later dropped is kept = record {
  threads = ap (λ (z : State). z.threads) is ∙ kept.threads;
  room = ap (λ (z : State). z.room) is ∙ kept.room;
  row = ap (λ (z : State). length z.row) is ∙ kept.row;
}
