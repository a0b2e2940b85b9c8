use Rattle.regex_lite_syntax.proofs.Common.{◌-◌, ◌<◌, ◌≤◌, ◌++◌, length, drop, slice_range}
use Rattle.regex_lite_syntax.proofs.Common.{NameWritten, Text}
use Rattle.regex_lite_syntax.proofs.grammar.NameReadingLemmas.{NameLeft, NameSoFar}
use Rattle.regex_lite_syntax.proofs.parse.name.read_name.Given as goal

abbrev pub invariant-loop-c : goal.invariant-loop-c
invariant-loop-c l = record {
  inside : (l.at < l.end) × (l.end ≤ length l.chars);
  so_far : NameSoFar (slice_range l.chars l.at l.end);
  -- a name that stands at the start, of a longer text too, goes on from here
  back : (more rest name : Text) → NameWritten (drop l.at l.chars ++ more) rest name
      → NameLeft (drop l.end l.chars ++ more) rest;
}

abbrev pub decreases-loop-c : goal.decreases-loop-c
decreases-loop-c l = length l.chars - l.end
