use Rattle.regex_lite_syntax.proofs.Common.{◌+◌, ◌-◌, ◌<◌, ◌≤◌, [], ◌∷◌, length, NoneStands}
use Rattle.regex_lite_syntax.proofs.prefilter.words.pair.Pair.find_before.Given as goal

abbrev pub invariant-places : goal.invariant-places
invariant-places l = record {
  order : l.from ≤ l.at;
  wrong : l.wrong < l.at + length l.word;
  none : NoneStands (l.word ∷ []) l.bytes l.from l.at;
}

abbrev pub decreases-places : goal.decreases-places
decreases-places l = l.end - l.at
