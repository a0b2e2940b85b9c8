use Rattle.regex_lite_syntax.proofs.Common.{◌-◌, ◌≤◌, ◌<◌, NoneStands, length}
use Rattle.regex_lite_syntax.proofs.prefilter.words.needed.Needed.next_word.Given as goal

abbrev pub invariant-blocks-2 : goal.invariant-blocks-2
invariant-blocks-2 l = record {
  low : l.from ≤ l.at;
  high : l.at ≤ length l.bytes;
  some : 0 < l.len;
  none : NoneStands l.self.words l.bytes l.from l.at;
}

abbrev pub decreases-blocks-2 : goal.decreases-blocks-2
decreases-blocks-2 l = length l.bytes - l.at
