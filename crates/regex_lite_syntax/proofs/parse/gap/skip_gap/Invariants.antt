use Rattle.regex_lite_syntax.proofs.Common.{◌-◌, ◌≤◌, length, drop, Spacing, Text}
use Rattle.regex_lite_syntax.proofs.grammar.ScanLemmas.{Scan}
use Rattle.regex_lite_syntax.proofs.parse.gap.skip_gap.Given as goal

abbrev pub invariant-loop-end : goal.invariant-loop-end
invariant-loop-end l = record {
  inside : (l.at ≤ l.end) × (l.end ≤ length l.chars);
  -- a gap from here is one from the start
  goes : (rest : Text) → Scan l.in_comment (drop l.end l.chars) rest
      → Spacing (drop l.at l.chars) rest;
}

abbrev pub decreases-loop-end : goal.decreases-loop-end
decreases-loop-end l = length l.chars - l.end
