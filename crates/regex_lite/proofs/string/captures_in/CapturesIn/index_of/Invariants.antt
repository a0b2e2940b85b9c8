use Rattle.regex_lite.proofs.Common.{◌≡◌, ℕ, ◌<◌, false, get_or, None}
use Rattle.regex_lite.specs.Groups.{is_named}
use Rattle.regex_lite.proofs.string.captures_in.CapturesIn.index_of.Given as goal

abbrev pub invariant-loop-k : goal.invariant-loop-k
invariant-loop-k g l =
    (j : ℕ) → j < l.k → is_named l.name (get_or l.self.names j None) ≡ false
