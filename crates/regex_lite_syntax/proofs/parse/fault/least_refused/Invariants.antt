use Rattle.regex_lite_syntax.proofs.Common.{◌-◌, ◌<◌, ◌≤◌, take, BeginsNone, GoesOnFrom}
use Rattle.regex_lite_syntax.proofs.parse.fault.least_refused.Given as goal

abbrev pub invariant-loop-end : goal.invariant-loop-end
invariant-loop-end l = record {
  inside : (l.fn.low ≤ l.below) × (l.below < l.end) × (l.end ≤ l.fn.high);
  none : BeginsNone l.fn.flags (take l.end l.chars);
  goes_on : GoesOnFrom l.fn.flags l.chars l.fn.low l.below;
}

abbrev pub decreases-loop-end : goal.decreases-loop-end
decreases-loop-end l = l.end - l.below
