use Rattle.regex_lite_syntax.proofs.Common.{◌-◌, ◌≤◌, length, drop, WhiteSpace, Text}
use Rattle.regex_lite_syntax.proofs.parse.counted.skip_side.Given as goal

abbrev pub invariant-loop-end : goal.invariant-loop-end
invariant-loop-end l = record {
  inside : (l.at ≤ l.end) × (l.end ≤ length l.chars);
  -- white space from here is white space from the start
  goes : (rest : Text) → WhiteSpace (drop l.end l.chars) rest → WhiteSpace (drop l.at l.chars) rest;
}

abbrev pub decreases-loop-end : goal.decreases-loop-end
decreases-loop-end l = length l.chars - l.end
