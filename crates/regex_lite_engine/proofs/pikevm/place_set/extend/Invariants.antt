use Rattle.regex_lite_engine.proofs.Common.{◌≡◌, ℕ, ◌-◌, ◌≤◌, length, slice_index, vec_capacity}
use Rattle.regex_lite_engine.proofs.pikevm.place_set.extend.Given as goal

abbrev pub invariant-blocks-2 : goal.invariant-blocks-2
invariant-blocks-2 l = record {
  same : (k : ℕ) → slice_index l.stamps.items k ≡ slice_index l.initial.stamps.items k;
  capacity : vec_capacity l.initial.stamps ≤ vec_capacity l.stamps;
}

abbrev pub decreases-blocks-2 : goal.decreases-blocks-2
decreases-blocks-2 l = l.count - length l.stamps.items
