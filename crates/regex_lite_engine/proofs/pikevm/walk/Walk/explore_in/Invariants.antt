use Rattle.regex_lite_engine.proofs.Common.{false, ◌∷◌, places_of, KeepsPosition, StaysCounted}
use Rattle.std.specs.Prelude.{not, ◌==◌}
use Rattle.regex_lite_engine.specs.Pikevm.Machine.{explore}
use Rattle.regex_lite_engine.specs.Pikevm.Capacity.{with_frames, GoesOn, HasCapacity, work}
use Rattle.regex_lite_engine.proofs.pikevm.walk.Walk.explore_in.Given as goal

abbrev pub invariant-places : goal.invariant-places
invariant-places g l = record {
  room : HasCapacity (places_of l.table) l.self (explore l.place ∷ l.self.memory.frames);
  on : GoesOn (places_of l.table) (not (g.row.WHOLE == 0)) l.here (g.S.ThreadStart.reported l.start)
      (with_frames l.initial.self (explore l.first ∷ l.initial.self.memory.frames))
      (with_frames l.self (explore l.place ∷ l.self.memory.frames)) false;
  kept : KeepsPosition l.initial.self.memory l.self.memory;
  counts : StaysCounted l.initial.self.steps l.self.steps;
}

abbrev pub decreases-places : goal.decreases-places
decreases-places g l =
    work (places_of l.table)
    (record l.self.memory { frames = explore l.place ∷ l.self.memory.frames })
