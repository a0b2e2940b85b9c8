-- A tree without looks is written out as places whose arrows require none.
use Rattle.regex_lite_engine.proofs.Common.{zero, suc, List, [], ◌∷◌, map, Some, None, unwrap_or}
use Rattle.regex_lite_engine.proofs.Common.{Tree, Address, with_arrows, go, Content, place_at}
use Rattle.regex_lite_engine.proofs.Common.{whole, end_address, place_of_pattern}
use Rattle.regex_lite_engine.specs.Graph.NoLooks.{RequiresNoLook, RequireNoLook}
use Rattle.regex_lite_engine.specs.SearchLaws.{HasNoLook}
use Rattle.regex_lite_engine.proofs.laws.search.EachPlaceLemmas.{OfPlace, places_fit}

pub free_arrows : {A : Type 0} (targets : List A) → RequireNoLook (map go targets)
free_arrows [] = tt
free_arrows (to ∷ targets) = (tt, free_arrows targets)

pub without_looks : (tree : Tree) → HasNoLook tree → (a : Address)
    → RequiresNoLook (place_of_pattern tree a)
without_looks tree given (zero ∷ []) = tt
without_looks tree given (suc zero ∷ a) =
    of_place (place_at (whole tree) (1 ∷ []) end_address a)
    (places_fit RequiresNoLook free_arrows (λ slot to. (tt, tt)) (λ set to. (tt, tt)) (Unit {0})
    (λ test to gone. absurd (gone tt)) (whole tree) (λ w. given) (1 ∷ []) end_address a)
  where
    of_place : (content : Content) → OfPlace RequiresNoLook content
        → RequiresNoLook (unwrap_or content (with_arrows []))
    of_place None is = tt
    of_place (Some place) is = is
without_looks tree given a = tt
