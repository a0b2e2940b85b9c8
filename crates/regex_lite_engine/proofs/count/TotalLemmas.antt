-- What several patterns take together, one after another.
use Rattle.regex_lite_engine.proofs.Common.{◌≡◌, ℕ, ◌+◌, ◌<◌, ◌≤◌, List, [], ◌∷◌, map, length}
use Rattle.regex_lite_engine.proofs.Common.{get_or, drop, sym, ap, ◌∙◌, arith, sum_by-cons, Tree}
use Rattle.regex_lite_engine.proofs.Common.{tree_of, reading_places, whole_places, places_of_all}
use Rattle.regex_lite_engine.proofs.Common.{reading_of_all}
use Rattle.regex_lite_syntax.specs.declared.hir.Hir.{Hir}
use Rattle.std.proofs.lemmas.List.{drop_more}
use Rattle.regex_lite_engine.proofs.count.ReadingCountLemmas.{reading_few}

-- the trees that are left from a number on
pub trees_left : (hirs : List Hir) (k : ℕ) (hir : Hir) → k < length hirs → hir ≡ get_or hirs k hir
    → map tree_of (drop k hirs) ≡ tree_of hir ∷ map tree_of (drop (k + 1) hirs)
trees_left hirs k hir less is =
    ap (map tree_of) (drop_more hirs k hir less ∙ ap (λ x. x ∷ drop (k + 1) hirs) (sym is))

-- each pattern has a place at least that reads no character
pub reading_all_few : (trees : List Tree)
    → reading_of_all trees + length trees ≤ places_of_all trees
reading_all_few [] = omega arith
reading_all_few (tree ∷ trees) =
    let reading = sum_by-cons reading_places tree trees in
    let places = sum_by-cons whole_places tree trees in
    omega (arith, reading, places, reading_few tree, reading_all_few trees)
