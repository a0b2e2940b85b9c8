-- As many places in the layout of a tree read a character as in the tree, and no table has more
-- places that read than arrows.
use Rattle.regex_lite_engine.proofs.Common.{◌≡◌, ℕ, zero, suc, ◌*◌, ◌≤◌, List, [], ◌∷◌, map, length}
use Rattle.regex_lite_engine.proofs.Common.{replicate, refl, ap, arith, mul-le-mul_left}
use Rattle.regex_lite_engine.proofs.Common.{sum_by-cons, Tree, empty, character, class, look}
use Rattle.regex_lite_engine.proofs.Common.{repetition, capture, concat, alternation, Trees, none}
use Rattle.regex_lite_engine.proofs.Common.{more, ClassRange, copies, class_arrows, places}
use Rattle.regex_lite_engine.proofs.Common.{places_in, count, reading_places, Condition, free}
use Rattle.regex_lite_engine.proofs.Common.{holding, reading, Arrow, complete, with_arrows}
use Rattle.regex_lite_engine.proofs.Common.{renamed_arrow, go, one_of, reading_count, reading_of}
use Rattle.regex_lite_engine.proofs.Common.{arrow_count, arrows_of, pattern_table}
use Rattle.regex_lite_engine.specs.Graph.Places.{Place, reading_arrows, condition_reads}
use Rattle.regex_lite_engine.specs.Graph.PlaceCounts.{reading_places_in}
use Rattle.regex_lite_engine.proofs.count.MeasureLemmas.{unnumbered, forget, measured, measured_in}
use Rattle.regex_lite_engine.proofs.count.MeasureLemmas.{sum_pattern}

arrows_read_alike : (arrows : List (Arrow ℕ))
    → reading_arrows arrows ≡ reading_arrows (map (renamed_arrow forget) arrows)
arrows_read_alike [] = refl
arrows_read_alike (arrow ∷ arrows) = omega (arith, arrows_read_alike arrows)

read_alike : (place : Place ℕ) → reading_count place ≡ reading_count (unnumbered place)
read_alike complete = refl
read_alike (with_arrows arrows) = arrows_read_alike arrows

free_read : (n : ℕ) → reading_arrows {A = ℕ} (replicate n (go 0)) ≡ 0
free_read zero = refl
free_read (suc n) = omega (arith, free_read n)

set_reads : (ranges : List ClassRange)
    → reading_count {A = ℕ} (one_of ranges 0) ≡ class_arrows ranges
set_reads [] = refl
set_reads (range ∷ ranges) = refl

mutual
  reading_measured : (tree : Tree) → measured reading_count tree ≡ reading_places tree
  reading_measured empty = refl
  reading_measured (character c) = refl
  reading_measured (class ranges) = set_reads ranges
  reading_measured (look test) = refl
  reading_measured (repetition least most greedy body) =
      omega (arith, ap (λ n. copies least most * n) (reading_measured body))
  reading_measured (capture index name body) = omega (arith, reading_measured body)
  reading_measured (concat parts) = reading_in_measured parts
  reading_measured (alternation branches) =
      omega (arith, reading_in_measured branches, free_read (count branches))

  reading_in_measured : (trees : Trees) → measured_in reading_count trees ≡ reading_places_in trees
  reading_in_measured none = refl
  reading_in_measured (more a rest) = omega (arith, reading_measured a, reading_in_measured rest)

pub reading_pattern : (tree : Tree) (base : ℕ)
    → reading_of (pattern_table tree base) ≡ reading_places tree
reading_pattern tree base =
    omega (arith, sum_pattern reading_count read_alike tree base, reading_measured tree)

-- no more places read than there are
reading_sets : (ranges : List ClassRange) → class_arrows ranges ≤ 1
reading_sets [] = omega arith
reading_sets (range ∷ rest) = omega arith

mutual
  pub reading_few : (tree : Tree) → reading_places tree ≤ places tree
  reading_few empty = omega arith
  reading_few (character c) = omega arith
  reading_few (class ranges) = reading_sets ranges
  reading_few (look test) = omega arith
  reading_few (repetition least most greedy body) =
      omega (arith, mul-le-mul_left (copies least most) (reading_few body))
  reading_few (capture index name body) = omega (arith, reading_few body)
  reading_few (concat parts) = reading_in_few parts
  reading_few (alternation branches) = omega (arith, reading_in_few branches)

  reading_in_few : (trees : Trees) → reading_places_in trees ≤ places_in trees
  reading_in_few none = omega arith
  reading_in_few (more a rest) = omega (arith, reading_few a, reading_in_few rest)

-- fewer places read than there are arrows
reads_of : (arrows : List (Arrow ℕ)) → reading_arrows arrows ≤ length arrows
reads_of [] = omega arith
reads_of (arrow ∷ arrows) =
    let one = at_most_one arrow.condition in let rest = reads_of arrows in omega (arith, one, rest)
  where
    at_most_one : (condition : Condition) → condition_reads condition ≤ 1
    at_most_one free = omega arith
    at_most_one (holding test) = omega arith
    at_most_one (reading set) = omega arith

reads_at : (place : Place ℕ) → reading_count place ≤ arrow_count place
reads_at complete = omega arith
reads_at (with_arrows arrows) = reads_of arrows

pub reads_within : (table : List (Place ℕ)) → reading_of table ≤ arrows_of table
reads_within [] = omega arith
reads_within (place ∷ table) =
    let a = sum_by-cons reading_count place table in let b = sum_by-cons arrow_count place table in
    omega (arith, a, b, reads_at place, reads_within table)
