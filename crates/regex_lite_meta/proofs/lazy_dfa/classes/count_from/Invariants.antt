use Rattle.regex_lite_meta.proofs.Common.{◌≡◌, ℕ, ◌+◌, ◌<◌, ◌≤◌, slice_index}
use Rattle.regex_lite_meta.proofs.lazy_dfa.classes.count_from.Given as goal

-- one more is counted for those up to this one
abbrev pub invariant-characters : goal.invariant-characters
invariant-characters l = record {
  counted : (d : ℕ) → l.from ≤ d → d < l.c
      → slice_index l.ascii d ≡ 1 + slice_index l.fn.ascii d;
  before : (d : ℕ) → d < l.from → slice_index l.ascii d ≡ slice_index l.fn.ascii d;
  left : (d : ℕ) → l.c ≤ d → slice_index l.ascii d ≡ slice_index l.fn.ascii d;
}
