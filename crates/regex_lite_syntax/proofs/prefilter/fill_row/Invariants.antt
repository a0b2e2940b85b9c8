use Rattle.regex_lite_syntax.proofs.Common.{◌≡◌, ℕ, ◌<◌, ◌≤◌, true, length, StandsBelow}
use Rattle.regex_lite_syntax.specs.Prefilter.FirstSet.{stops_at}
use Rattle.regex_lite_syntax.proofs.prefilter.fill_row.Given as goal

abbrev pub invariant-loop-code : goal.invariant-loop-code
invariant-loop-code l = record {
  same : length l.bytes ≡ length l.fn.bytes;
  room : l.len ≤ length l.bytes;
  written : (byte : ℕ) → byte < l.code → stops_at l.starts byte ≡ true
      → StandsBelow l.bytes l.len byte;
}
