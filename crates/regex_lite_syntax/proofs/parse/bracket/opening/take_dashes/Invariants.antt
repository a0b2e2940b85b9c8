use Rattle.regex_lite_syntax.proofs.Common.{◌≡◌, ℕ, ◌+◌, ◌-◌, ◌≤◌, length, drop, nat_lt, Dashes}
use Rattle.regex_lite_syntax.proofs.Common.{EndsGap, Text}
use Rattle.regex_lite_syntax.proofs.parse.bracket.opening.take_dashes.Given as goal

abbrev pub invariant-loop-found : goal.invariant-loop-found
invariant-loop-found l = record {
  inside : (l.at ≤ l.end) × (l.end ≤ length l.chars);
  past_gap : EndsGap l.verbose (drop l.end l.chars);
  dashes : ℕ;
  some : l.found ≡ nat_lt 0 dashes;
  -- dashes from here on are dashes from the start on
  goes : (more : ℕ) (rest : Text) → Dashes l.verbose more (drop l.end l.chars) rest
      → Dashes l.verbose (dashes + more) (drop l.at l.chars) rest;
}

abbrev pub decreases-loop-found : goal.decreases-loop-found
decreases-loop-found l = length l.chars - l.end
