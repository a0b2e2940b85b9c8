use Rattle.regex_lite_syntax.proofs.Common.{◌≡◌, ◌+◌, ◌-◌, ◌≤◌, length}
use Rattle.regex_lite_syntax.specs.Prefilter.Marks.{AreMarked, numbered_words}
use Rattle.regex_lite_syntax.proofs.prefilter.words.shifts.Shifts.mark.Given as goal

-- the patterns of all words that stand before this offset are marked
abbrev pub invariant-stops : goal.invariant-stops
invariant-stops l = record {
  order : l.from ≤ l.at;
  inside : l.at ≤ length l.bytes;
  room : l.span.end ≤ length l.bytes + 1 - l.self.reach;
  size : length l.marks ≡ length l.fn.marks;
  marked : AreMarked (numbered_words l.numbered) l.bytes l.from l.from l.fn.marks
      → AreMarked (numbered_words l.numbered) l.bytes l.from l.at l.marks;
}

abbrev pub decreases-stops : goal.decreases-stops
decreases-stops l = length l.bytes - l.at
