-- A search of a graph with ordered arrows that is over, and the first of all ways.
use Rattle.regex_lite_engine.proofs.Common.{◌≡◌, ℕ, Bool, ◌⊎◌, List, [], ◌∷◌, ◌++◌, IsTrue, Some}
use Rattle.regex_lite_engine.proofs.Common.{None, Option, IsWay, NotAfter, IsDead, IsAnswered}
use Rattle.regex_lite_engine.proofs.Common.{IsGrown}

module _ (N : Type 0) (step : N → ℕ → Option N) (is_end : N → Bool)
    (IsStart : (front : List ℕ) → N → Type 0) where
  -- the numbers that stand for one start do not begin those of another
  abbrev pub StartsDiffer : Type 0
  StartsDiffer =
      (a b more other : List ℕ) (n m : N) → IsStart a n → IsStart b m
      → a ++ more ≡ b ++ other → (a ≡ b) × (n ≡ m)

  -- a way from a start to an end
  pub record IsWhole (way : List ℕ) : Type 0 where
    pub front : List ℕ
    pub arrows : List ℕ
    pub parts : way ≡ front ++ arrows
    pub start : N
    pub is_start : IsStart front start
    pub end : N
    pub ends : IsTrue (is_end end)
    pub is_way : IsWay N step start arrows end

  -- it is the first of all of them, if there is any
  abbrev pub IsFirst : Option (List ℕ) → Type 0
  IsFirst None = (way : List ℕ) → IsWhole way → ⊥
  IsFirst (Some best) = IsWhole best × ((way : List ℕ) → IsWhole way → NotAfter best way)

  -- the search is over. A start may be left out where nothing leads from it to an end
  pub record IsExplored (recorded : N → Option (List ℕ)) (best : Option (List ℕ)) : Type 0 where
    pub grown : (n : N) (way : List ℕ) → recorded n ≡ Some way
        → IsGrown N step is_end IsStart recorded best n way
    pub starts : (front : List ℕ) (n : N) → IsStart front n
        → IsAnswered N step is_end IsStart recorded best n front ⊎ IsDead N step is_end n
    pub arrows : (n : N) (way : List ℕ) (k : ℕ) (m : N) → recorded n ≡ Some way
        → step n k ≡ Some m → IsAnswered N step is_end IsStart recorded best m (way ++ k ∷ [])
    pub best_ends : (first : List ℕ) → best ≡ Some first
        → (n : N) × IsTrue (is_end n) × (recorded n ≡ Some first)
    pub best_least : (n : N) (way : List ℕ) → IsTrue (is_end n) → recorded n ≡ Some way
        → (first : List ℕ) × (best ≡ Some first) × NotAfter first way
