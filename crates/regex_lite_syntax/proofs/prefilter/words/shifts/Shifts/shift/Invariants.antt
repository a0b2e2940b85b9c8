use Rattle.regex_lite_syntax.proofs.Common.{◌-◌, ◌≤◌, List, length, Letter, NoneStands}
use Rattle.regex_lite_syntax.specs.Prefilter.Finders.{AreShiftsOf}
use Rattle.regex_lite_syntax.proofs.prefilter.words.shifts.Shifts.shift.Given as goal

-- no word stands before this offset
abbrev pub invariant-shifts : goal.invariant-shifts
invariant-shifts l = record {
  order : l.from ≤ l.at;
  inside : l.at ≤ length l.bytes;
  none : (words : List (List Letter)) → AreShiftsOf words l.self
      → NoneStands words l.bytes l.from l.at;
}

abbrev pub decreases-shifts : goal.decreases-shifts
decreases-shifts l = length l.bytes - l.at
