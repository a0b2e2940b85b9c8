use Rattle.regex_lite_c.proofs.Common.{◌≡◌, ℕ, ◌+◌, ◌<◌, ◌≤◌, ◌⊎◌, slice_get, option_map, span_of}
use Rattle.regex_lite_c.proofs.groups.put_groups.Given as goal

abbrev pub invariant-loop-k : goal.invariant-loop-k
invariant-loop-k g l = record {
  each : (j : ℕ) → j < l.k
      → slice_get l.spans (l.at + j)
      ≡ option_map span_of (slice_get (g.G.GroupSpans.spans l.groups) j);
  rest : (j : ℕ) → (j < l.at) ⊎ (l.at + l.k ≤ j) → slice_get l.spans j ≡ slice_get l.fn.spans j;
}
