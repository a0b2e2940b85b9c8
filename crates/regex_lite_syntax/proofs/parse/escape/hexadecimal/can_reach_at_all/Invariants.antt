use Rattle.regex_lite_syntax.proofs.Common.{◌<◌, length, ReachesNumber, Text}
use Rattle.regex_lite_syntax.proofs.parse.escape.hexadecimal.can_reach_at_all.Given as goal

abbrev pub invariant-loop-digits : goal.invariant-loop-digits
invariant-loop-digits l = record {
  -- fewer digits reach no such character
  none : (further : Text) → length further < l.digits → ReachesNumber l.number l.least further → ⊥;
}
