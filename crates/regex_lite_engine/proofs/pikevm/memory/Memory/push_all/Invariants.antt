use Rattle.regex_lite_engine.proofs.Common.{◌≡◌, ◌++◌, map, drop}
use Rattle.regex_lite_engine.specs.Pikevm.Machine.{explore}
use Rattle.regex_lite_engine.proofs.pikevm.memory.Memory.push_all.Given as goal

abbrev pub invariant-loop-i : goal.invariant-loop-i
invariant-loop-i g l =
    l.self
    ≡ record l.initial.self { frames = map explore (drop l.i l.places) ++ l.initial.self.frames }
