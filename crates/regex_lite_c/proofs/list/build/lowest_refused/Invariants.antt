use Rattle.regex_lite_c.proofs.Common.{◌≡◌, ℕ, ◌<◌, map, slice_get, Some, IsAccepted}
use Rattle.regex_lite_c.proofs.Common.{settings_of_source}
use Rattle.regex_lite.specs.Settings.{Settings}
use Rattle.regex_lite_c.proofs.list.build.lowest_refused.Given as goal

-- those so far are accepted
abbrev pub invariant-loop-k : goal.invariant-loop-k
invariant-loop-k l =
    (j : ℕ) (own : Settings) → j < l.k
    → slice_get (map settings_of_source l.sources) j ≡ Some own → IsAccepted own
