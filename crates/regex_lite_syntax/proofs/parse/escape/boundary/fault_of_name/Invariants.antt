use Rattle.regex_lite_syntax.proofs.Common.{◌-◌, ◌≤◌, length, drop, is_boundary_character, Spaced}
use Rattle.regex_lite_syntax.proofs.Common.{Text}
use Rattle.regex_lite_syntax.proofs.parse.escape.boundary.fault_of_name.Given as goal

abbrev pub invariant-loop-c : goal.invariant-loop-c
invariant-loop-c l = record {
  inside : (l.at ≤ l.end) × (l.end ≤ length l.chars);
  -- the letters that have been passed
  passed : (letters : Text)
      × Spaced l.verbose is_boundary_character letters (drop l.at l.chars) (drop l.end l.chars);
}

abbrev pub decreases-loop-c : goal.decreases-loop-c
decreases-loop-c l = length l.chars - l.end
