-- The layout of a tree has as many places as the tree.
use Rattle.regex_lite_engine.proofs.Common.{◌≡◌, ℕ, ◌*◌, List, [], ◌∷◌, length, sum_by, refl, ap}
use Rattle.regex_lite_engine.proofs.Common.{arith, sum_by-cons, Tree, empty, character, class, look}
use Rattle.regex_lite_engine.proofs.Common.{repetition, capture, concat, alternation, Trees, none}
use Rattle.regex_lite_engine.proofs.Common.{more, copies, places, places_in, whole_places}
use Rattle.regex_lite_engine.proofs.Common.{pattern_table}
use Rattle.regex_lite_engine.specs.Graph.Places.{Place}
use Rattle.regex_lite_engine.proofs.count.MeasureLemmas.{measured, measured_in, sum_pattern}

-- each place counts
one_each : (places : List (Place ℕ)) → sum_by (λ place. 1) places ≡ length places
one_each [] = refl
one_each (place ∷ places) =
    omega (arith, sum_by-cons (λ (p : Place ℕ). 1) place places, one_each places)

mutual
  places_measured : (tree : Tree) → measured (λ place. 1) tree ≡ places tree
  places_measured empty = refl
  places_measured (character c) = refl
  places_measured (class ranges) = refl
  places_measured (look test) = refl
  places_measured (repetition least most greedy body) =
      omega (arith, ap (λ n. copies least most * n) (places_measured body))
  places_measured (capture index name body) = omega (arith, places_measured body)
  places_measured (concat parts) = places_in_measured parts
  places_measured (alternation branches) = omega (arith, places_in_measured branches)

  places_in_measured : (trees : Trees) → measured_in (λ place. 1) trees ≡ places_in trees
  places_in_measured none = refl
  places_in_measured (more a rest) = omega (arith, places_measured a, places_in_measured rest)

pub length_pattern : (tree : Tree) (base : ℕ) → length (pattern_table tree base) ≡ whole_places tree
length_pattern tree base =
    let sum = sum_pattern (λ place. 1) (λ place. refl) tree base in
    omega (arith, sum, one_each (pattern_table tree base), places_measured tree)
