-- The records of a search of a graph with ordered arrows: a way at each node that it enters. Here a
-- way is a list of numbers: first those of its start, then those of its arrows. So ways from an
-- earlier start come first.
use Rattle.std.specs.Prelude.{◌≡◌, ◌<◌, ◌≤◌, ◌⊎◌, ℕ, Bool, IsTrue}
use Rattle.std.specs.Prelude.{List, [], ◌∷◌, ◌++◌, Option, Some}
use Rattle.regex_lite_engine.specs.Graph.Ways.{Leads}

-- where the two first differ, the first has the smaller number, or ends
abbrev pub Before : List ℕ → List ℕ → Type 0
Before a [] = ⊥
Before [] (y ∷ b) = Unit {0}
Before (x ∷ a) (y ∷ b) = (x < y) ⊎ ((x ≡ y) × Before a b)

abbrev pub NotAfter : List ℕ → List ℕ → Type 0
NotAfter a b = (a ≡ b) ⊎ Before a b

module _ (N : Type 0) (step : N → ℕ → Option N) (is_end : N → Bool) where
  -- no arrows lead from the node to an end
  abbrev pub IsDead : N → Type 0
  IsDead n = (arrows : List ℕ) (end : N) → IsTrue (is_end end) → Leads N step n arrows end → ⊥

  -- `IsStart` says which nodes are starts, by the numbers of the start, and `recorded` has the ways
  module _ (IsStart : (front : List ℕ) → N → Type 0) (recorded : N → Option (List ℕ))
      (best : Option (List ℕ)) where
    -- no later way is recorded at the node, or the best is before this way
    abbrev pub IsAnswered : N → List ℕ → Type 0
    IsAnswered n way =
        ((other : List ℕ) × (recorded n ≡ Some other) × NotAfter other way)
        ⊎ ((first : List ℕ) × (best ≡ Some first) × Before first way)

    -- the way to the node is a start alone, or a recorded way and one arrow
    abbrev pub IsGrown : N → List ℕ → Type 0
    IsGrown n way =
        IsStart way n
        ⊎ ((m : N) × (other : List ℕ) × (k : ℕ) × (recorded m ≡ Some other)
        × (step m k ≡ Some n) × (way ≡ other ++ k ∷ []))

-- there is a start at each position from the first to the last; its number is its position
abbrev pub StartsAt : {N : Type 0} → (start : ℕ → N) → (first last : ℕ) → (front : List ℕ) → N
    → Type 0
StartsAt start first last front n =
    (i : ℕ) × (first ≤ i) × (i ≤ last) × (front ≡ i ∷ []) × (n ≡ start i)
