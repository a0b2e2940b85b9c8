-- The stack bound of the places in the layout of a tree is below their number.
use Rattle.regex_lite_engine.proofs.Common.{◌≡◌, ℕ, zero, suc, ◌+◌, ◌<◌, ◌≤◌, List, [], ◌∷◌}
use Rattle.regex_lite_engine.proofs.Common.{replicate, refl, arith, mul-le-mul_left, length-map}
use Rattle.regex_lite_engine.proofs.Common.{length-replicate, Tree, empty, character, class, look}
use Rattle.regex_lite_engine.proofs.Common.{repetition, capture, concat, alternation, Trees, none}
use Rattle.regex_lite_engine.proofs.Common.{more, nullable, IsRegular, ClassRange, copies, places}
use Rattle.regex_lite_engine.proofs.Common.{places_in, count, whole_places, Arrow, complete}
use Rattle.regex_lite_engine.proofs.Common.{with_arrows, renamed_arrow, go, one_of, stack_bound}
use Rattle.regex_lite_engine.proofs.Common.{stack_bound_of, pattern_table}
use Rattle.regex_lite_syntax.specs.Tree.Regular.{AreRegular}
use Rattle.regex_lite_engine.specs.Graph.Places.{Place}
use Rattle.regex_lite_engine.proofs.ArrowBoundLemmas.{repeated_few}
use Rattle.regex_lite_engine.proofs.count.MeasureLemmas.{unnumbered, forget, measured}
use Rattle.regex_lite_engine.proofs.count.MeasureLemmas.{measured_in, sum_pattern}

kept_alike : (place : Place ℕ) → stack_bound place ≡ stack_bound (unnumbered place)
kept_alike complete = refl
kept_alike (with_arrows []) = refl
kept_alike (with_arrows (arrow ∷ arrows)) =
    omega (arith, length-map arrows (renamed_arrow forget))

kept_at_set : (ranges : List ClassRange) → stack_bound {A = ℕ} (one_of ranges 0) ≡ 0
kept_at_set [] = refl
kept_at_set (range ∷ ranges) = refl

kept_at_branches : (n : ℕ) → stack_bound {A = ℕ} (with_arrows (replicate n (go 0))) ≤ n
kept_at_branches zero = omega arith
kept_at_branches (suc n) = omega (arith, length-replicate {A = Arrow ℕ} n (go 0))

mutual
  few_kept : (tree : Tree) → IsRegular tree → measured stack_bound tree < places tree
  few_kept empty regular = omega arith
  few_kept (character c) regular = omega arith
  few_kept (class ranges) regular = omega (arith, kept_at_set ranges)
  few_kept (look test) regular = omega arith
  few_kept (repetition least most greedy body) regular =
      let few = mul-le-mul_left (copies least most) (few_kept body regular.1) in
      omega (arith, few, repeated_few least most (nullable body))
  few_kept (capture index name body) regular = omega (arith, few_kept body regular.1)
  few_kept (concat none) regular = absurd regular.0
  few_kept (concat (more a rest)) regular =
      omega (arith, few_kept a regular.1.0, few_kept_in rest regular.1.1)
  few_kept (alternation branches) regular =
      omega (arith, few_kept_in branches regular.1, kept_at_branches (count branches))

  few_kept_in : (trees : Trees) → AreRegular trees
      → measured_in stack_bound trees + count trees ≤ places_in trees
  few_kept_in none regular = omega arith
  few_kept_in (more a rest) regular =
      omega (arith, few_kept a regular.0, few_kept_in rest regular.1)

pub stack_bound_pattern : (tree : Tree) → IsRegular tree → (base : ℕ)
    → stack_bound_of (pattern_table tree base) < whole_places tree
stack_bound_pattern tree regular base =
    omega (arith, sum_pattern stack_bound kept_alike tree base, few_kept tree regular)
