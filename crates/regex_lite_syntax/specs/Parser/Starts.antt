-- The starts of the open groups of a pattern, as the parser keeps them.
use Rattle.std.specs.Prelude.{◌≡◌, ℕ, ◌<◌, List, [], ◌∷◌, ◌++◌, length}

-- the starts of the open groups after a step from the index `here`, after which this many are open
pub record Tracks (old new : List ℕ) (many here : ℕ) : Type 0 where
  pub opened : length old < many → new ≡ old ++ here ∷ []
  pub closed : many < length old → (last : ℕ) × (old ≡ new ++ last ∷ [])
  pub same : many ≡ length old → new ≡ old
