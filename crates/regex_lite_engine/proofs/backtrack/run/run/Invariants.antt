use Rattle.regex_lite_engine.proofs.Common.{◌≡◌, ℕ, ◌-◌, length, chars, places_of, StaysCounted}
use Rattle.regex_lite_engine.proofs.Common.{IsDeadAt, PassesTo}
use Rattle.regex_lite_engine.specs.Backtrack.Searching.{IsUnderWay}
use Rattle.regex_lite_engine.proofs.backtrack.run.run.Given as goal

abbrev pub invariant-starts : goal.invariant-starts
invariant-starts g l = record {
  p : ℕ;
  passes : PassesTo (IsDeadAt (places_of l.pattern.table.now) (chars l.haystack) l.pattern.entry)
      (chars l.haystack) p l.here;
  under_way : IsUnderWay (places_of l.pattern.table.now) l.haystack l.fn.first.at
      l.pattern.entry p l.walk;
  width : length l.walk.stack.row ≡ length l.fn.walk.stack.row;
  room : l.walk.stack.room ≡ l.fn.walk.stack.room;
  pairs : l.walk.visited.room ≡ l.fn.walk.visited.room;
  counts : StaysCounted l.fn.walk.steps l.walk.steps;
}

abbrev pub decreases-starts : goal.decreases-starts
decreases-starts g l = length l.haystack - l.here.at
