use Rattle.regex_lite_meta.proofs.Common.{◌≡◌, length, take}
use Rattle.regex_lite_meta.proofs.lazy_dfa.state.are_same.Given as goal

-- those before are the same
abbrev pub invariant-ways : goal.invariant-ways
invariant-ways l = record {
  same : take l.k l.ways ≡ take l.k l.others;
  count : length l.ways ≡ length l.others;
}
