use Rattle.regex_lite_engine.proofs.Common.{[], ◌∷◌, None, places_of, StaysCounted}
use Rattle.regex_lite_engine.specs.Backtrack.Machine.{explore}
use Rattle.regex_lite_engine.specs.Backtrack.Capacity.{with_frames, GoesOn, HasCapacity, work}
use Rattle.regex_lite_engine.proofs.backtrack.walk.Backtracker.explore.Given as goal

abbrev pub invariant-ways : goal.invariant-ways
invariant-ways g l = record {
  room : HasCapacity (places_of l.table) l.haystack l.self
      (explore l.place l.at ∷ l.self.stack.frames);
  on : GoesOn (places_of l.table) l.haystack
      (with_frames l.fn.self (explore l.entry l.start ∷ []))
      (with_frames l.self (explore l.place l.at ∷ l.self.stack.frames)) None;
  counts : StaysCounted l.fn.self.steps l.self.steps;
}

abbrev pub decreases-ways : goal.decreases-ways
decreases-ways g l =
    work (places_of l.table) l.haystack
    (with_frames l.self (explore l.place l.at ∷ l.self.stack.frames))
