-- A search that goes on in a text begins on a character boundary.
use Rattle.regex_lite_engine.proofs.Common.{ℕ, ◌<◌, ◌≤◌, ◌⊎◌, List, length, IsCharBoundary, inl}
use Rattle.regex_lite_engine.proofs.Common.{inr, arith}

pub on_boundary : (h : List ℕ) (start : ℕ) → (length h < start) ⊎ IsCharBoundary h start
    → start ≤ length h → IsCharBoundary h start
on_boundary h start (inl above) inside = absurd (omega (arith, above, inside))
on_boundary h start (inr edge) inside = edge
