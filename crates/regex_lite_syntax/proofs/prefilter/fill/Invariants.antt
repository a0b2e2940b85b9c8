use Rattle.regex_lite_syntax.proofs.Common.{◌≡◌, ℕ, ◌*◌, ◌<◌, ◌≤◌, true, length, StandsBelow}
use Rattle.regex_lite_syntax.specs.Prefilter.FirstSet.{stops_at}
use Rattle.regex_lite_syntax.proofs.prefilter.fill.Given as goal

abbrev pub invariant-loop-row : goal.invariant-loop-row
invariant-loop-row l = record {
  same : length l.bytes ≡ length l.fn.bytes;
  room : l.len ≤ length l.bytes;
  written : (byte : ℕ) → byte < 16 * l.row → stops_at l.starts byte ≡ true
      → StandsBelow l.bytes l.len byte;
}

abbrev pub invariant-loop-k : goal.invariant-loop-k
invariant-loop-k l = record {
  same : length l.bytes ≡ length l.fn.bytes;
  above : l.len ≤ l.k;
  room : l.len ≤ length l.bytes;
  written : (byte : ℕ) → byte < 128 → stops_at l.starts byte ≡ true
      → StandsBelow l.bytes l.len byte;
}
