use Rattle.regex_lite_syntax.proofs.Common.{◌-◌, ◌<◌, ◌≤◌, length, GoesOnFrom}
use Rattle.regex_lite_syntax.proofs.parse.fault.end_of_fault.Given as goal

abbrev pub invariant-loop-alloc : goal.invariant-loop-alloc
invariant-loop-alloc l = record {
  inside : (l.fn.start ≤ l.low) × (l.low < length l.chars);
  some : 0 < l.width;
  goes_on : GoesOnFrom l.fn.flags l.chars l.fn.start l.low;
}

abbrev pub decreases-loop-alloc : goal.decreases-loop-alloc
decreases-loop-alloc l = length l.chars - l.low
