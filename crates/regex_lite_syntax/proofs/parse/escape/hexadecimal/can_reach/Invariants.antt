use Rattle.regex_lite_syntax.proofs.Common.{◌≡◌, min}
use Rattle.regex_lite_syntax.proofs.parse.escape.ReachLemmas.{lowest, highest}
use Rattle.regex_lite_syntax.proofs.parse.escape.hexadecimal.can_reach.Given as goal

abbrev pub invariant-loop : goal.invariant-loop
invariant-loop l = record {
  low : l.low ≡ min (lowest l.counter l.number) 0x110000;
  high : l.high ≡ min (highest l.counter l.number) 0x10FFFF;
}
