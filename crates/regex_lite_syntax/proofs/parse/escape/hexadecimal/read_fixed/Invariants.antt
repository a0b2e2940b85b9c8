use Rattle.regex_lite_syntax.proofs.Common.{ℕ, ◌≤◌, ◌++◌, length, drop, FixedDigits, Text}
use Rattle.regex_lite_syntax.proofs.parse.escape.DigitLemmas.{FixedFrom}
use Rattle.regex_lite_syntax.proofs.parse.escape.hexadecimal.read_fixed.Given as goal

abbrev pub invariant-loop-read : goal.invariant-loop-read
invariant-loop-read l = record {
  inside : (l.at ≤ l.end) × (l.end ≤ length l.chars);
  small : l.number ≤ 0x10FFFF;
  -- what goes on from here is what goes on from the start, in each longer text too
  goes : (rest : Text) (c : ℕ)
      → FixedFrom l.verbose l.number l.read l.digits (drop l.end l.chars) rest c
      → FixedDigits l.verbose l.digits (drop l.at l.chars) rest c;
  goes_longer : (more rest : Text) (c : ℕ)
      → FixedFrom l.verbose l.number l.read l.digits (drop l.end l.chars ++ more) rest c
      → FixedDigits l.verbose l.digits (drop l.at l.chars ++ more) rest c;
  back : (more rest : Text) (c : ℕ)
      → FixedDigits l.verbose l.digits (drop l.at l.chars ++ more) rest c
      → FixedFrom l.verbose l.number l.read l.digits (drop l.end l.chars ++ more) rest c;
}
