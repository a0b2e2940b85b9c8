-- Rows of slots.
use Rattle.std.specs.Prelude.{◌≡◌, ℕ, List, Option, Some, None, slice_get}

-- the offset that each slot holds
abbrev pub Row : Type 0
Row = List (Option ℕ)

-- no slot of the row is marked
abbrev pub IsBlank : Row → Type 0
IsBlank row = (k : ℕ) (slot : Option ℕ) → slice_get row k ≡ Some slot → slot ≡ None
