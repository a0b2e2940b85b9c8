use Rattle.regex_lite_engine.proofs.Common.{◌≡◌, ℕ, List, length, Option, Restores, Row}
use Rattle.regex_lite_engine.specs.Backtrack.Machine.{Frame}
use Rattle.regex_lite_engine.specs.Backtrack.Searching.{SlotsBelow}
use Rattle.regex_lite_engine.proofs.backtrack.walk.Backtracker.go_back.Given as goal

abbrev pub invariant-frames : goal.invariant-frames
invariant-frames l = record {
  below : SlotsBelow (length l.self.stack.row) l.self.stack.frames;
  restores : (next : Option (ℕ × ℕ)) (row : Row) (frames : List Frame)
      → Restores l.self.stack.row l.self.stack.frames next row frames
      → Restores l.initial.self.stack.row l.initial.self.stack.frames next row frames;
  same : l.self ≡ record l.initial.self { stack = l.self.stack };
  row : length l.self.stack.row ≡ length l.initial.self.stack.row;
  room : l.self.stack.room ≡ l.initial.self.stack.room;
}

abbrev pub decreases-frames : goal.decreases-frames
decreases-frames l = length l.self.stack.frames
