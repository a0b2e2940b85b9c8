use Rattle.std.proofs.Common.{◌≡◌, ◌<◌, ℕ, Some}
use Rattle.std.specs.Prelude.{slice_get}
use Rattle.regex_lite.specs.Expression.{Expression}
use Rattle.regex_lite.specs.MatchOffsets.{MatchesIn}
use Rattle.log_router.proofs.route.route.Given as goal

abbrev pub invariant-loop-rule : goal.invariant-loop-rule
invariant-loop-rule l =
    (lower : ℕ) (other : Expression) → lower < l.rule → slice_get l.rules lower ≡ Some other
    → ¬ (MatchesIn other l.line)
