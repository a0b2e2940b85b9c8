use Rattle.regex_lite_engine.proofs.Common.{◌≡◌, ℕ, ◌^◌, ◌<◌, true, get_or, take, is_digit}
use Rattle.regex_lite_engine.proofs.Common.{number_of}
use Rattle.regex_lite_engine.proofs.interpolate.parse_index.Given as goal

abbrev pub invariant-loop-byte : goal.invariant-loop-byte
invariant-loop-byte l = record {
  fits : l.index < 2 ^ 64;
  number : l.index ≡ number_of 10 (take l.byte-index l.name);
  digits : (k : ℕ) → k < l.byte-index → is_digit (get_or l.name k 0) ≡ true;
}
