use Rattle.regex_lite_engine.proofs.Common.{◌≡◌, ◌++◌, take, drop}
use Rattle.regex_lite_engine.proofs.pikevm.best.copy_slots.Given as goal

abbrev pub invariant-slots : goal.invariant-slots
invariant-slots l = record {
  reported : l.row ≡ take l.k l.slots ++ drop l.k l.initial.row;
}
