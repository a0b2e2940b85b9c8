use Rattle.regex_lite_syntax.proofs.Common.{◌-◌, ◌^◌, ◌<◌, ◌≤◌, length, drop}
use Rattle.regex_lite_syntax.proofs.grammar.NumberLemmas.{DigitsRead}
use Rattle.regex_lite_syntax.proofs.parse.counted.read_number.Given as goal

abbrev pub invariant-loop-next : goal.invariant-loop-next
invariant-loop-next l = record {
  inside : (l.first ≤ l.end) × (l.end ≤ length l.chars);
  small : l.number < 2 ^ 32;
  read : DigitsRead l.verbose (l.end - l.first) (drop l.first l.chars)
      (drop l.end l.chars) l.number;
}

abbrev pub decreases-loop-next : goal.decreases-loop-next
decreases-loop-next l = length l.chars - l.end
