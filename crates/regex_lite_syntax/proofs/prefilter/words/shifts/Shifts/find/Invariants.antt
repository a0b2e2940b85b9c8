use Rattle.regex_lite_syntax.proofs.Common.{◌+◌, ◌-◌, ◌≤◌, length, NoneStands}
use Rattle.regex_lite_syntax.specs.Prefilter.WordLists.{all_words}
use Rattle.regex_lite_syntax.proofs.prefilter.words.shifts.Shifts.find.Given as goal

-- no word stands before this offset
abbrev pub invariant-stops : goal.invariant-stops
invariant-stops l = record {
  order : l.from ≤ l.at;
  inside : l.at ≤ length l.bytes;
  room : l.span.end ≤ length l.bytes + 1 - l.self.reach;
  none : NoneStands (all_words l.words) l.bytes l.from l.at;
}

abbrev pub decreases-stops : goal.decreases-stops
decreases-stops l = length l.bytes - l.at
