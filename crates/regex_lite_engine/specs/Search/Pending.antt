-- The pending nodes of a walk over a graph, each with a way to it.
use Rattle.std.specs.Prelude.{◌≡◌, ◌<◌, ◌⊎◌, ℕ, List, [], ◌∷◌}
use Rattle.regex_lite_engine.specs.Search.Preference.{IsPreferred}

-- a place at a position
abbrev pub Node : Type 0
Node = ℕ × ℕ

-- a node, and a way to it
abbrev pub PendingNode : Type 0 → Type 0
PendingNode N = N × List ℕ

-- the way starts below this position
abbrev pub StartsBelow : ℕ → List ℕ → Type 0
StartsBelow from [] = ⊥
StartsBelow from (i ∷ ks) = i < from

module _ (N : Type 0) where
  abbrev pub In : N → List ℕ → List (PendingNode N) → Type 0
  In n w [] = ⊥
  In n w (o ∷ os) = ((n ≡ o.0) × (w ≡ o.1)) ⊎ In n w os

  -- each way is preferred to those after it
  abbrev pub Ordered : List (PendingNode N) → Type 0
  Ordered [] = Unit {0}
  Ordered (o ∷ os) = ((n : N) (w : List ℕ) → In n w os → IsPreferred o.1 w) × Ordered os
