-- How the boundaries of intervals are gathered.
use Rattle.std.specs.Prelude.{◌≡◌, ℕ, true}
use Rattle.regex_lite_meta.specs.LazyDfa.Intervals.{Intervals, IsBoundary}

-- no boundary is removed, and some may be added
pub record Grows (before after : Intervals) : Type 0 where
  pub boundaries : (b : ℕ) → IsBoundary before.boundaries b → IsBoundary after.boundaries b
  pub looks : before.looks ≡ true → after.looks ≡ true
