-- Ways in a graph with ordered arrows: `step n k` is the node to which arrow k of the node n leads.
use Rattle.std.specs.Prelude.{◌≡◌, ℕ, List, [], ◌∷◌, ◌++◌, Option, Some}

module _ (N : Type 0) (step : N → ℕ → Option N) where
  -- the arrows with these numbers lead from n to m, one after another
  abbrev pub Leads : N → List ℕ → N → Type 0
  Leads n [] m = n ≡ m
  Leads n (k ∷ ks) m = (l : N) × (step n k ≡ Some l) × Leads l ks m

  -- no node is visited twice along the arrows from n
  abbrev pub NoneTwice : N → List ℕ → Type 0
  NoneTwice n ks =
      (us vs ws : List ℕ) (m : N) → ks ≡ us ++ (vs ++ ws) → Leads n us m → Leads m vs m → vs ≡ []

  -- the arrows lead from n to m, and no node is visited twice
  abbrev pub IsWay : N → List ℕ → N → Type 0
  IsWay n ks m = Leads n ks m × NoneTwice n ks
