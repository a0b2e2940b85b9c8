-- How many arrows a tree has, by its places.
use Rattle.regex_lite_engine.proofs.Common.{ℕ, zero, suc, ◌+◌, ◌-◌, ◌*◌, ◌<◌, ◌≤◌, Bool, true}
use Rattle.regex_lite_engine.proofs.Common.{false, List, [], ◌∷◌, Some, None, Option}
use Rattle.regex_lite_engine.proofs.Common.{refl, arith, mul-le-mul_left, sum_by-cons, Tree, empty}
use Rattle.regex_lite_engine.proofs.Common.{character, class, look, repetition, capture, concat}
use Rattle.regex_lite_engine.proofs.Common.{alternation, Trees, none, more, nullable, IsRegular}
use Rattle.regex_lite_engine.proofs.Common.{ClassRange, copies, own_places, class_arrows, places}
use Rattle.regex_lite_engine.proofs.Common.{places_in, arrows, count, whole_places, whole_arrows}
use Rattle.regex_lite_engine.proofs.Common.{places_of_all, arrows_of_all}
use Rattle.regex_lite_syntax.specs.Tree.Regular.{AreRegular}
use Rattle.regex_lite_engine.specs.Graph.PlaceCounts.{arrows_in, own_arrows, bounded_places}
use Rattle.regex_lite_engine.specs.Graph.PlaceCounts.{bounded_arrows}
use Rattle.regex_lite_engine.specs.Graph.SideBySide.{AreRegularPatterns}

own_few : (least above : ℕ)
    → bounded_arrows least above + 1 ≤ 2 * bounded_places least above + (least + above)
own_few zero zero = omega arith
own_few zero (suc zero) = omega arith
own_few zero (suc (suc d)) = omega arith
own_few (suc n) zero = omega arith
own_few (suc n) (suc d) = omega arith

-- a repetition's own places have fewer arrows than twice their number and the copies together
pub repeated_few : (least : ℕ) (most : Option ℕ) (nullable_body : Bool)
    → own_arrows least most nullable_body + 1
    ≤ 2 * own_places least most nullable_body + copies least most
repeated_few zero None true = omega arith
repeated_few zero None false = omega arith
repeated_few (suc n) None nullable_body = omega arith
repeated_few zero (Some most) nullable_body = own_few zero (most - zero)
repeated_few (suc n) (Some most) nullable_body = own_few (suc n) (most - suc n)

set_few : (ranges : List ClassRange) → class_arrows ranges < 2
set_few [] = omega arith
set_few (range ∷ rest) = omega arith

mutual
  -- a tree has fewer arrows than twice its places
  pub arrows_few : (tree : Tree) → IsRegular tree → arrows tree < 2 * places tree
  arrows_few empty regular = omega arith
  arrows_few (character c) regular = omega arith
  arrows_few (class ranges) regular = set_few ranges
  arrows_few (look test) regular = omega arith
  arrows_few (repetition least most greedy body) regular =
      let few = mul-le-mul_left (copies least most) (arrows_few body regular.1) in
      omega (arith, few, repeated_few least most (nullable body))
  arrows_few (capture index name body) regular = omega (arith, arrows_few body regular.1)
  arrows_few (concat none) regular = absurd regular.0
  arrows_few (concat (more a rest)) regular =
      omega (arith, arrows_few a regular.1.0, arrows_in_few rest regular.1.1)
  arrows_few (alternation branches) regular = omega (arith, arrows_in_few branches regular.1)

  arrows_in_few : (trees : Trees) → AreRegular trees
      → arrows_in trees + count trees ≤ 2 * places_in trees
  arrows_in_few none regular = omega arith
  arrows_in_few (more a rest) regular =
      omega (arith, arrows_few a regular.0, arrows_in_few rest regular.1)

-- so do several patterns
pub arrows_all_few : (trees : List Tree) → AreRegularPatterns trees
    → arrows_of_all trees ≤ 2 * places_of_all trees
arrows_all_few [] regular = omega arith
arrows_all_few (tree ∷ trees) regular =
    let arrows = sum_by-cons whole_arrows tree trees in
    let places = sum_by-cons whole_places tree trees in
    let later = arrows_all_few trees (λ k t there. regular (suc k) t there) in
    omega (arith, arrows, places, arrows_few tree (regular 0 tree refl), later)
