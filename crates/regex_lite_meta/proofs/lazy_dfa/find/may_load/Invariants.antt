use Rattle.regex_lite_meta.proofs.Common.{◌≡◌, ℕ, ◌<◌, true, slice_index_or, StoredWay}
use Rattle.regex_lite_meta.proofs.lazy_dfa.find.may_load.Given as goal

-- those before this one began there
abbrev pub invariant-ways : goal.invariant-ways
invariant-ways l = (j : ℕ) (d : StoredWay) → j < l.k
    → (slice_index_or l.ways j d).is_first ≡ true
