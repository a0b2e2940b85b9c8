use Rattle.regex_lite_engine.proofs.Common.{◌≡◌, ℕ, ◌-◌, ◌^◌, ◌<◌, ◌≤◌, length, chars}
use Rattle.regex_lite_engine.proofs.Common.{StaysCounted, IsHere, position_at}
use Rattle.std.specs.Prelude.{not, ◌==◌}
use Rattle.std.specs.List.{All}
use Rattle.regex_lite_engine.specs.Pikevm.Passing.{IsUnderWayTo}
use Rattle.regex_lite_engine.specs.Search.Starts.{AreStartsUpTo}
use Rattle.regex_lite_engine.proofs.pikevm.anchored.run_anchored.Given as goal

abbrev pub invariant-positions : goal.invariant-positions
invariant-positions g l = record {
  p : ℕ;
  is : IsHere (chars l.haystack) p l.here;
  starts : AreStartsUpTo (g.P.Patterns.table l.fn.patterns) (chars l.haystack)
      (g.P.Patterns.entries l.fn.patterns) (position_at l.haystack l.start) p
      (g.P.Patterns.starts l.patterns);
  under_way : IsUnderWayTo (g.P.Patterns.table l.fn.patterns) (chars l.haystack)
      (g.P.Patterns.entries l.fn.patterns) (position_at l.haystack l.start)
      (not (g.row.WHOLE == 0)) (position_at l.haystack l.start) p l.cache;
  inside : All (λ start. start.place < length (g.P.Patterns.table l.fn.patterns))
      (g.P.Patterns.starts l.patterns);
  few : length (g.P.Patterns.starts l.patterns)
      ≤ length (g.P.Patterns.entries l.fn.patterns);
  countable : length (g.P.Patterns.entries l.fn.patterns) < 2 ^ 32;
  table : g.P.Patterns.table l.patterns ≡ g.P.Patterns.table l.fn.patterns;
  entries : g.P.Patterns.entries l.patterns ≡ g.P.Patterns.entries l.fn.patterns;
  width : length l.cache.best.row ≡ length l.fn.cache.best.row;
  counts : StaysCounted l.fn.cache.walk.steps l.cache.walk.steps;
}

abbrev pub decreases-positions : goal.decreases-positions
decreases-positions g l = length l.haystack - l.here.at
