use Rattle.regex_lite_engine.proofs.Common.{◌≡◌, ◌++◌, map, drop}
use Rattle.regex_lite_engine.specs.Backtrack.Machine.{explore}
use Rattle.regex_lite_engine.proofs.backtrack.stack.Stack.push_all.Given as goal

abbrev pub invariant-loop-i : goal.invariant-loop-i
invariant-loop-i l = l.self ≡ record l.initial.self {
  frames = map (λ q. explore q l.at) (drop l.i l.places) ++ l.initial.self.frames;
}
