-- One pattern of several, given by its number.
use Rattle.std.specs.Prelude.{◌≡◌, ℕ, List, Some, slice_get}
use Rattle.regex_lite.specs.Expression.{Expression}

-- the list has a pattern with this number, and the pattern has this property
abbrev pub OfPattern : List Expression → (number : ℕ) → (Expression → Type 0) → Type 0
OfPattern list number property =
    (re : Expression) × (slice_get list number ≡ Some re) × property re
