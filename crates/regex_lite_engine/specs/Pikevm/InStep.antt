-- A walk over a graph from position to position: the ways that it has recorded, and those that are
-- pending. Nodes have positions, and a way has its start in front. Below n and m are nodes, w and v
-- the ways to them, k the number of an arrow, and b the best way.
use Rattle.std.specs.Prelude.{◌≡◌, ◌≤◌, ◌⊎◌, ℕ, suc, Bool, IsTrue}
use Rattle.std.specs.Prelude.{List, [], ◌∷◌, ◌++◌, Option, Some}
use Rattle.regex_lite_engine.specs.Search.Preference.{IsPreferred}
use Rattle.regex_lite_engine.specs.Search.Explored.{NotAfter, IsAnswered, IsGrown, IsDead}
use Rattle.regex_lite_engine.specs.Search.Pending.{PendingNode, In, Ordered, StartsBelow}

module _ (N : Type 0) (step : N → ℕ → Option N) (IsStart : (front : List ℕ) → N → Type 0)
    (is_end : N → Bool) (position : N → ℕ) where
  -- The walk at position p: the pending ways there are `now`, and those at the next position so far
  -- are `next`; the starts below `from` were added, or lead to no end
  pub record IsInStep (p from : ℕ) (recorded : N → Option (List ℕ))
      (now next : List (PendingNode N)) (best : Option (List ℕ)) : Type 0 where
    -- each way is a start alone, or a recorded way and one arrow
    pub grown : (n : N) (w : List ℕ) → recorded n ≡ Some w
        → IsGrown N step is_end IsStart recorded best n w
    pub now_grown : (n : N) (w : List ℕ) → In N n w now
        → IsGrown N step is_end IsStart recorded best n w
    pub next_grown : (n : N) (w : List ℕ) → In N n w next
        → IsGrown N step is_end IsStart recorded best n w
    -- no way is lost: what isn't recorded is pending, or leads to no end
    pub starts : (front : List ℕ) (n : N) → IsStart front n → StartsBelow from front
        → (IsAnswered N step is_end IsStart recorded best n front
        ⊎ (In N n front now ⊎ In N n front next))
        ⊎ IsDead N step is_end n
    pub arrows : (n : N) (w : List ℕ) (k : ℕ) (m : N) → recorded n ≡ Some w → step n k ≡ Some m
        → IsAnswered N step is_end IsStart recorded best m (w ++ k ∷ [])
        ⊎ (In N m (w ++ k ∷ []) now ⊎ In N m (w ++ k ∷ []) next)
    -- the best way is the preferred one of those that lead to an end
    pub best_ends : (b : List ℕ) → best ≡ Some b
        → (n : N) × IsTrue (is_end n) × (recorded n ≡ Some b)
    pub best_least : (n : N) (w : List ℕ) → IsTrue (is_end n) → recorded n ≡ Some w
        → (b : List ℕ) × (best ≡ Some b) × NotAfter b w
    -- ways are followed in the order of preference
    pub now_ordered : Ordered N now
    pub next_ordered : Ordered N next
    pub now_after : (n : N) (w : List ℕ) (m : N) (v : List ℕ) → In N n w next → In N m v now
        → IsPreferred w v
    pub ahead : (n : N) (w : List ℕ) (m : N) (v : List ℕ) → In N n w now → recorded m ≡ Some v
        → position m ≡ p → NotAfter v w
    pub now_better : (n : N) (w b : List ℕ) → In N n w now → best ≡ Some b → IsPreferred w b
    pub next_better : (n : N) (w b : List ℕ) → In N n w next → best ≡ Some b → IsPreferred w b
    -- the positions of nodes, and the starts of ways
    pub now_stands : (n : N) (w : List ℕ) → In N n w now → position n ≡ p
    pub next_stands : (n : N) (w : List ℕ) → In N n w next → position n ≡ suc p
    pub past : (n : N) (w : List ℕ) → recorded n ≡ Some w → position n ≤ p
    pub now_below : (n : N) (w : List ℕ) → In N n w now → StartsBelow from w
    pub next_below : (n : N) (w : List ℕ) → In N n w next → StartsBelow from w
    pub best_below : (b : List ℕ) → best ≡ Some b → StartsBelow from b
