use Rattle.regex_lite_syntax.proofs.Common.{◌≡◌, ◌-◌, ◌≤◌, ◌++◌, length, take, drop, AllPass}
use Rattle.regex_lite_syntax.proofs.Common.{is_lower}
use Rattle.regex_lite_syntax.proofs.parse.bracket.named.skip_lower.Given as goal

abbrev pub invariant-loop-end : goal.invariant-loop-end
invariant-loop-end l = record {
  inside : (l.at ≤ l.end) × (l.end ≤ length l.chars);
  letters : AllPass is_lower (take (l.end - l.at) (drop l.at l.chars));
  spelled : drop l.at l.chars ≡ take (l.end - l.at) (drop l.at l.chars) ++ drop l.end l.chars;
}

abbrev pub decreases-loop-end : goal.decreases-loop-end
decreases-loop-end l = length l.chars - l.end
