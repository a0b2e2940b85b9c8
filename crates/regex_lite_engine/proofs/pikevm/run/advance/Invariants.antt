use Rattle.regex_lite_engine.proofs.Common.{◌≡◌, ℕ, ◌-◌, true, length, chars, None, StaysCounted}
use Rattle.regex_lite_engine.proofs.Common.{◌==◌, IsHere, best_of}
use Rattle.std.specs.Prelude.{not}
use Rattle.regex_lite_engine.specs.Pikevm.Passing.{IsUnderWay}
use Rattle.regex_lite_engine.proofs.pikevm.run.advance.Given as goal

abbrev pub invariant-positions : goal.invariant-positions
invariant-positions g l = record {
  under_way : (s p : ℕ) → IsHere (chars l.haystack) p l.fn.from
      → IsUnderWay (g.P.Patterns.table l.fn.patterns) (chars l.haystack)
      (g.P.Patterns.entries l.fn.patterns) s p l.initial.cache
      → (q : ℕ) × IsHere (chars l.haystack) q l.here
      × IsUnderWay (g.P.Patterns.table l.fn.patterns) (chars l.haystack)
      (g.P.Patterns.entries l.fn.patterns) s q l.cache;
  none : not (g.row.EARLIEST == 0) ≡ true → best_of l.cache.best ≡ None;
  table : g.P.Patterns.table l.patterns ≡ g.P.Patterns.table l.fn.patterns;
  entries : g.P.Patterns.entries l.patterns ≡ g.P.Patterns.entries l.fn.patterns;
  all : l.fn.most ≡ None → l.left ≡ None;
  width : length l.cache.best.row ≡ length l.initial.cache.best.row;
  counts : StaysCounted l.initial.cache.walk.steps l.cache.walk.steps;
}

abbrev pub decreases-positions : goal.decreases-positions
decreases-positions g l = length l.haystack - l.here.at
