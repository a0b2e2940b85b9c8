use Rattle.regex_lite_syntax.proofs.Common.{ℕ, ◌-◌, ◌<◌, ◌≤◌, ◌++◌, length, drop, BracedDigits}
use Rattle.regex_lite_syntax.proofs.Common.{Text}
use Rattle.regex_lite_syntax.proofs.parse.escape.DigitLemmas.{BracedFrom}
use Rattle.regex_lite_syntax.proofs.parse.escape.hexadecimal.read_braced.Given as goal

abbrev pub invariant-loop-c : goal.invariant-loop-c
invariant-loop-c l = record {
  inside : (l.at ≤ l.end) × (l.end ≤ length l.chars);
  small : l.number ≤ 0x10FFFF;
  -- where no digit has been read, the number is 0
  begun : 0 < l.number → l.at < l.end;
  -- what goes on from here is what goes on from the start, in each longer text too
  goes : (rest : Text) (c : ℕ)
      → BracedFrom l.verbose l.number (l.end - l.at) (drop l.end l.chars) rest c
      → BracedDigits l.verbose (drop l.at l.chars) rest c;
  goes_longer : (more rest : Text) (c : ℕ)
      → BracedFrom l.verbose l.number (l.end - l.at) (drop l.end l.chars ++ more) rest c
      → BracedDigits l.verbose (drop l.at l.chars ++ more) rest c;
  back : (more rest : Text) (c : ℕ) → BracedDigits l.verbose (drop l.at l.chars ++ more) rest c
      → BracedFrom l.verbose l.number (l.end - l.at) (drop l.end l.chars ++ more) rest c;
}

abbrev pub decreases-loop-c : goal.decreases-loop-c
decreases-loop-c l = length l.chars - l.end
