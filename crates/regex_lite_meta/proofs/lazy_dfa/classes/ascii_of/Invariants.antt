use Rattle.regex_lite_meta.proofs.Common.{◌≡◌, ℕ, ◌<◌, drop, slice_index, interval_of}
use Rattle.regex_lite_meta.proofs.lazy_dfa.classes.ascii_of.Given as goal

-- those from this one on are counted
abbrev pub invariant-bounds : goal.invariant-bounds
invariant-bounds l = (c : ℕ) → c < 128
    → slice_index l.ascii c ≡ interval_of (drop l.k l.boundaries) c
