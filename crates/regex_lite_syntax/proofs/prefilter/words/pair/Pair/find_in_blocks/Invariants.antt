use Rattle.regex_lite_syntax.proofs.Common.{◌-◌, ◌≤◌, [], ◌∷◌, NoneStands}
use Rattle.regex_lite_syntax.proofs.prefilter.words.pair.Pair.find_in_blocks.Given as goal

abbrev pub invariant-blocks-2 : goal.invariant-blocks-2
invariant-blocks-2 g l = record {
  order : l.from ≤ l.at;
  within : l.at ≤ l.end;
  none : NoneStands (l.word ∷ []) l.bytes l.from l.at;
}

abbrev pub decreases-blocks-2 : goal.decreases-blocks-2
decreases-blocks-2 g l = l.end - l.at
