-- A depth-first walk over a graph: the ways that it has recorded, and those that are pending. The
-- position of a start is put in front of each way from it. The starts are added in order, each when
-- nothing is left of those before it. Below n and m are nodes, w and v the ways to them, i the
-- position of a start, and k the number of an arrow.
use Rattle.std.specs.Prelude.{◌≡◌, ◌<◌, ◌≤◌, ◌⊎◌, ℕ, Bool, IsTrue}
use Rattle.std.specs.Prelude.{List, [], ◌∷◌, ◌++◌, Option, Some, None}
use Rattle.regex_lite_engine.specs.Search.Explored.{NotAfter, StartsAt, IsAnswered, IsGrown, IsDead}
use Rattle.regex_lite_engine.specs.Search.Pending.{PendingNode, In, Ordered, StartsBelow}

module _ (N : Type 0) (step : N → ℕ → Option N) (start : ℕ → N) (is_end : N → Bool)
    (first last : ℕ) where
  -- No match is complete yet; the pending ways are `pending`, the next first; the starts below
  -- `from` were added, or lead to no end
  pub record IsDepthFirst (from : ℕ) (recorded : N → Option (List ℕ))
      (pending : List (PendingNode N)) : Type 0 where
    -- each way is a start alone, or a recorded way and one arrow
    pub grown : (n : N) (w : List ℕ) → recorded n ≡ Some w
        → IsGrown N step is_end (StartsAt start first last) recorded None n w
    pub pending_grown : (n : N) (w : List ℕ) → In N n w pending
        → IsGrown N step is_end (StartsAt start first last) recorded None n w
    -- no way is lost: what isn't recorded is pending, or leads to no end
    pub starts : (i : ℕ) → first ≤ i → i ≤ last → i < from
        → (IsAnswered N step is_end (StartsAt start first last) recorded None (start i) (i ∷ [])
        ⊎ In N (start i) (i ∷ []) pending)
        ⊎ IsDead N step is_end (start i)
    pub arrows : (n : N) (w : List ℕ) (k : ℕ) (m : N) → recorded n ≡ Some w → step n k ≡ Some m
        → IsAnswered N step is_end (StartsAt start first last) recorded None m (w ++ k ∷ [])
        ⊎ In N m (w ++ k ∷ []) pending
    -- the walk stops at the first end
    pub no_end : (n : N) (w : List ℕ) → IsTrue (is_end n) → recorded n ≡ Some w → ⊥
    -- ways are followed in the order of preference
    pub ordered : Ordered N pending
    pub ahead : (n : N) (w : List ℕ) (m : N) (v : List ℕ) → In N n w pending → recorded m ≡ Some v
        → NotAfter v w
    -- all ways start below `from`
    pub pending_below : (n : N) (w : List ℕ) → In N n w pending → StartsBelow from w
    pub recorded_below : (m : N) (v : List ℕ) → recorded m ≡ Some v → StartsBelow from v
