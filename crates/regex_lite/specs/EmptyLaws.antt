-- Laws of patterns that can't match the empty text.
use Rattle.std.specs.Prelude.{◌≡◌, ◌<◌, ℕ, List, false}
use Rattle.regex_lite_syntax.specs.Tree.Properties.{nullable}
use Rattle.regex_lite.specs.Expression.{Expression, OfTree}
use Rattle.regex_lite.specs.MatchOffsets.{MatchesSpan}

-- a pattern whose tree isn't nullable has no empty match: each match ends after its start
abbrev pub OnlyNullableMatchesAreEmpty : Type 0
OnlyNullableMatchesAreEmpty =
    (re : Expression) (haystack : List ℕ) (span : ℕ × ℕ)
    → OfTree re (λ tree. nullable tree ≡ false) → MatchesSpan re haystack span → span.0 < span.1
