use Rattle.regex_lite_syntax.proofs.Common.{◌-◌, ◌≤◌, length, drop}
use Rattle.regex_lite_syntax.proofs.machine.RunLemmas.{ReachesNumber}
use Rattle.regex_lite_syntax.proofs.parse.parse_chars.Given as goal

abbrev pub invariant-loop-parser : goal.invariant-loop-parser
invariant-loop-parser l = record {
  inside : l.at ≤ length l.chars;
  reaches : ReachesNumber l.config.flags l.config.nest_limit l.chars l.parser (drop l.at l.chars);
}

abbrev pub decreases-loop-parser : goal.decreases-loop-parser
decreases-loop-parser l = length l.chars - l.at
