-- A written-out pattern has one place where a match is complete.
use Rattle.regex_lite_engine.proofs.Common.{◌≡◌, zero, suc, [], ◌∷◌, Some, refl, subst, Tree}
use Rattle.regex_lite_engine.proofs.Common.{Address, complete, with_arrows, place_at, whole}
use Rattle.regex_lite_engine.proofs.Common.{end_address, written_out}
use Rattle.regex_lite_engine.specs.Graph.Places.{Place}
use Rattle.regex_lite_engine.proofs.laws.search.EachPlaceLemmas.{OfPlace, places_fit}

-- no match is complete there
abbrev HasArrows : Place Address → Type 0
HasArrows complete = ⊥
HasArrows (with_arrows arrows) = Unit {0}

tree_arrows : (tree : Tree) (pre exit a : Address) → OfPlace HasArrows (place_at tree pre exit a)
tree_arrows tree =
    places_fit HasArrows (λ targets. tt) (λ slot to. tt) (λ set to. tt) ⊥ (λ test to gone. tt)
    tree (λ w. absurd w)

pub one_end : (tree : Tree) (a : Address) → written_out tree a ≡ Some complete → a ≡ end_address
one_end tree (zero ∷ []) e = refl
one_end tree (suc zero ∷ a) e =
    absurd (subst (OfPlace HasArrows) e (tree_arrows (whole tree) (1 ∷ []) end_address a))
one_end tree a e = absurd (cc)
