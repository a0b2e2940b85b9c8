-- The cost of searches, in numbers of a caller.
use Rattle.std.specs.Prelude.{◌≡◌, ◌-◌, ◌^◌, ℕ, List, min}
use Rattle.regex_lite_engine.specs.declared.steps.Steps.{Steps}
use Rattle.regex_lite.specs.Expression.{Expression}
use Rattle.regex_lite.specs.RegexListSearches.{IsWithinListCost}
use Rattle.regex_lite.specs.Searches.{IsWithinCost}
use Rattle.regex_lite_c.specs.declared.types.Cost.{Cost}

-- the numbers are the counts of the steps, each capped
pub record IsCostOf (steps : Steps) (cost : Cost) : Type 0 where
  pub tried : cost.tried ≡ min steps.tried (2 ^ 64 - 1)
  pub entered : cost.entered ≡ min steps.entered (2 ^ 64 - 1)
  pub looked : cost.looked ≡ min steps.looked (2 ^ 64 - 1)

-- the numbers are those of a search within the bounds for the pattern
abbrev pub IsCostOfSearch : Expression → (haystack : List ℕ) → (start : ℕ) → Cost → Type 0
IsCostOfSearch re haystack start cost =
    (steps : Steps) × IsWithinCost re haystack start steps × IsCostOf steps cost

-- the numbers are those of a search within the bounds for several patterns
abbrev pub IsCostOfListSearch : List Expression → (haystack : List ℕ) → (start : ℕ) → Cost
    → Type 0
IsCostOfListSearch list haystack start cost =
    (steps : Steps) × IsWithinListCost list haystack start steps × IsCostOf steps cost
