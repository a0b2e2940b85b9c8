use Rattle.regex_lite_meta.proofs.Common.{ℕ, ◌<◌, slice_index_or}
use Rattle.regex_lite_meta.proofs.lazy_dfa.reach.are_below.Given as goal

-- those before this one are below
abbrev pub invariant-entries : goal.invariant-entries
invariant-entries l = (j : ℕ) (d : ℕ) → j < l.k → slice_index_or l.entries j d < l.number
