use Rattle.regex_lite_engine.proofs.Common.{◌≡◌, ℕ, length}
use Rattle.regex_lite_engine.specs.Pikevm.Machine.{restored}
use Rattle.regex_lite_engine.specs.Pikevm.Capacity.{FramesBelow}
use Rattle.regex_lite_engine.proofs.pikevm.memory.Memory.next_place.Given as goal

abbrev pub invariant-frames : goal.invariant-frames
invariant-frames g l = record {
  places : ℕ;
  below : FramesBelow places (length l.self.row) l.self.frames;
  restored : restored l.initial.self.row l.initial.self.frames ≡ restored l.self.row l.self.frames;
  same : l.self ≡ record l.initial.self { row = l.self.row; frames = l.self.frames };
  width : length l.self.row ≡ length l.initial.self.row;
}

abbrev pub decreases-frames : goal.decreases-frames
decreases-frames g l = length l.self.frames
