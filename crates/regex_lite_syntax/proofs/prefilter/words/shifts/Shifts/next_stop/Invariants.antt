use Rattle.regex_lite_syntax.proofs.Common.{◌+◌, ◌-◌, ◌≤◌, List, length, Letter, NoneStands}
use Rattle.regex_lite_syntax.specs.Prefilter.Finders.{AreShiftsOf}
use Rattle.regex_lite_syntax.proofs.prefilter.words.shifts.Shifts.next_stop.Given as goal

-- no word stands before this offset
abbrev pub invariant-spans : goal.invariant-spans
invariant-spans l = record {
  order : l.from ≤ l.at;
  inside : l.at ≤ length l.bytes;
  room : l.span.end ≤ length l.bytes + 1 - l.self.reach;
  none : (words : List (List Letter)) → AreShiftsOf words l.self
      → NoneStands words l.bytes l.from l.at;
}

abbrev pub decreases-spans : goal.decreases-spans
decreases-spans l = length l.bytes - l.at
