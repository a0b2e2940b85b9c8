-- Preference among the ways from one position.
use Rattle.std.specs.Prelude.{◌≡◌, ◌<◌, ◌⊎◌, ℕ, List, [], ◌∷◌}
use Rattle.regex_lite_syntax.specs.Text.{Text}
use Rattle.regex_lite_syntax.specs.Tree.{Tree}
use Rattle.regex_lite_engine.specs.Graph.WrittenOut.{IsWayThrough}

-- Up to where they first differ, two ways from one position lead to the same place and position.
-- There the preferred way takes the earlier arrow
abbrev pub IsPreferred : (way other : List ℕ) → Type 0
IsPreferred [] other = ⊥
IsPreferred (k ∷ way) [] = ⊥
IsPreferred (k ∷ way) (l ∷ other) = (k < l) ⊎ ((k ≡ l) × IsPreferred way other)

-- the way leads from position i to position j, and is preferred to each other way from position i
pub record IsMostPreferred (tree : Tree) (haystack : Text) (i : ℕ) (way : List ℕ) (j : ℕ)
    : Type 0 where
  pub is_way : IsWayThrough tree haystack i way j
  pub preferred : (other : List ℕ) (k : ℕ) → IsWayThrough tree haystack i other k
      → (way ≡ other) ⊎ IsPreferred way other
