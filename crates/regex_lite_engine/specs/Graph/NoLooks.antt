-- Places from which no arrow requires a look.
use Rattle.std.specs.Prelude.{◌≡◌, ℕ, List, [], ◌∷◌, Some, slice_get}
use Rattle.regex_lite_engine.specs.Graph.Places.{Arrow, Place, Condition, complete, with_arrows}
use Rattle.regex_lite_engine.specs.Graph.Places.{free, holding, reading}

-- the condition isn't a look
abbrev pub IsNoLook : Condition → Type 0
IsNoLook free = Unit {0}
IsNoLook (holding test) = ⊥
IsNoLook (reading set) = Unit {0}

module _ {A : Type 0} where
  -- none of the arrows requires a look
  abbrev pub RequireNoLook : List (Arrow A) → Type 0
  RequireNoLook [] = Unit {0}
  RequireNoLook (arrow ∷ arrows) = IsNoLook arrow.condition × RequireNoLook arrows

  -- none of the place's arrows requires a look
  abbrev pub RequiresNoLook : Place A → Type 0
  RequiresNoLook complete = Unit {0}
  RequiresNoLook (with_arrows arrows) = RequireNoLook arrows

-- no place of the table requires a look
abbrev pub HasNoLooks : List (Place ℕ) → Type 0
HasNoLooks table =
    (q : ℕ) (place : Place ℕ) → slice_get table q ≡ Some place → RequiresNoLook place
