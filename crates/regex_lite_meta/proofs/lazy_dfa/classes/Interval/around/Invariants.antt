use Rattle.regex_lite_meta.proofs.Common.{◌≡◌, ℕ, ◌+◌, ◌<◌, ◌≤◌, length, drop, interval_of}
use Rattle.regex_lite_meta.proofs.lazy_dfa.classes.Interval.around.Given as goal

-- those from this one on are counted, and divide no two numbers of the interval
abbrev pub invariant-bounds : goal.invariant-bounds
invariant-bounds l = record {
  counted : l.around.class ≡ interval_of (drop l.k l.boundaries) l.c;
  few : l.around.class + l.k ≤ length l.boundaries;
  all : (d : ℕ) → l.around.start ≤ d → d < l.around.end
      → interval_of (drop l.k l.boundaries) d ≡ l.around.class;
}
