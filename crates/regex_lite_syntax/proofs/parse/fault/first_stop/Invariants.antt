use Rattle.regex_lite_syntax.proofs.Common.{◌-◌, ◌≤◌, length, drop}
use Rattle.regex_lite_syntax.proofs.machine.FaultLemmas.{Comes}
use Rattle.regex_lite_syntax.proofs.parse.fault.first_stop.Given as goal

abbrev pub invariant-loop-starts : goal.invariant-loop-starts
invariant-loop-starts l = record {
  inside : l.at ≤ length l.chars;
  comes : Comes l.fn.flags l.chars l.parser (drop l.at l.chars) l.starts.items;
}

abbrev pub decreases-loop-starts : goal.decreases-loop-starts
decreases-loop-starts l = length l.chars - l.at
