use Rattle.regex_lite_c.proofs.Common.{◌≡◌, ℕ, ◌<◌, ◌≤◌, slice_get, option_map}
use Rattle.regex_lite_c.specs.Outlines.{written_part}
use Rattle.regex_lite_c.proofs.outline.put_parts.Given as goal

abbrev pub invariant-loop-k : goal.invariant-loop-k
invariant-loop-k l = record {
  each : (j : ℕ) → j < l.k
      → slice_get l.parts j ≡ option_map written_part (slice_get l.found j);
  rest : (j : ℕ) → l.k ≤ j → slice_get l.parts j ≡ slice_get l.fn.parts j;
}
