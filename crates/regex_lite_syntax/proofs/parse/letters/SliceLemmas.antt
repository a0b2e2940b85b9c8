-- Parts of the pattern as slices of its characters.
use Rattle.regex_lite_syntax.proofs.Common.{◌≡◌, ℕ, ◌-◌, ◌≤◌, ◌++◌, length, drop, slice_range, ap}
use Rattle.regex_lite_syntax.proofs.Common.{◌∙◌, append_assoc, arith, Text}
use Rattle.std.proofs.Common.{length-take, length-drop}

pub slice_length : (xs : Text) (at end : ℕ) → end ≤ length xs
    → length (slice_range xs at end) ≡ end - at
slice_length xs at end h = omega (arith, length-take (end - at) (drop at xs), length-drop at xs)

-- what begins a text begins a longer one
pub spelled_longer : (more t read u : Text) → t ≡ read ++ u → t ++ more ≡ read ++ (u ++ more)
spelled_longer more t read u e = ap (λ v. v ++ more) e ∙ append_assoc read u more
