use Rattle.regex_lite.proofs.Common.{◌≡◌, ℕ, ◌<◌, true, slice_get, Some}
use Rattle.regex_lite.proofs.string.list.set_matches.SetMatches.matched_all.Given as goal

abbrev pub invariant-loop-matched : goal.invariant-loop-matched
invariant-loop-matched l =
    (i : ℕ) → i < l.matched-index → slice_get l.self i ≡ Some true
