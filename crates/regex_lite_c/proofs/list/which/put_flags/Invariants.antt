use Rattle.regex_lite_c.proofs.Common.{◌≡◌, ℕ, ◌<◌, ◌≤◌, slice_get, option_map}
use Rattle.regex_lite_c.specs.ListSpans.{flag_of}
use Rattle.regex_lite_c.proofs.list.which.put_flags.Given as goal

abbrev pub invariant-loop-k : goal.invariant-loop-k
invariant-loop-k l = record {
  each : (j : ℕ) → j < l.k
      → slice_get l.matched j ≡ option_map flag_of (slice_get l.set j);
  rest : (j : ℕ) → l.k ≤ j → slice_get l.matched j ≡ slice_get l.fn.matched j;
}
