-- The places in the layout of a tree have as many arrows as the tree.
use Rattle.regex_lite_engine.proofs.Common.{◌≡◌, ℕ, ◌*◌, List, [], ◌∷◌, sym, refl, ap, arith}
use Rattle.regex_lite_engine.proofs.Common.{length-map, length-replicate, Tree, empty, character}
use Rattle.regex_lite_engine.proofs.Common.{class, look, repetition, capture, concat, alternation}
use Rattle.regex_lite_engine.proofs.Common.{Trees, none, more, ClassRange, copies, class_arrows}
use Rattle.regex_lite_engine.proofs.Common.{arrows, count, whole_arrows, Arrow, complete}
use Rattle.regex_lite_engine.proofs.Common.{with_arrows, renamed_arrow, go, one_of, arrow_count}
use Rattle.regex_lite_engine.proofs.Common.{arrows_of, pattern_table}
use Rattle.regex_lite_engine.specs.Graph.Places.{Place}
use Rattle.regex_lite_engine.specs.Graph.PlaceCounts.{arrows_in}
use Rattle.regex_lite_engine.proofs.count.MeasureLemmas.{unnumbered, forget, measured}
use Rattle.regex_lite_engine.proofs.count.MeasureLemmas.{measured_in, sum_pattern}

arrows_alike : (place : Place ℕ) → arrow_count place ≡ arrow_count (unnumbered place)
arrows_alike complete = refl
arrows_alike (with_arrows list) = sym (length-map list (renamed_arrow forget))

arrows_of_set : (ranges : List ClassRange)
    → arrow_count {A = ℕ} (one_of ranges 0) ≡ class_arrows ranges
arrows_of_set [] = refl
arrows_of_set (range ∷ ranges) = refl

mutual
  arrows_measured : (tree : Tree) → measured arrow_count tree ≡ arrows tree
  arrows_measured empty = refl
  arrows_measured (character c) = refl
  arrows_measured (class ranges) = arrows_of_set ranges
  arrows_measured (look test) = refl
  arrows_measured (repetition least most greedy body) =
      omega (arith, ap (λ n. copies least most * n) (arrows_measured body))
  arrows_measured (capture index name body) = omega (arith, arrows_measured body)
  arrows_measured (concat parts) = arrows_in_measured parts
  arrows_measured (alternation branches) =
      let each = length-replicate {A = Arrow ℕ} (count branches) (go 0) in
      omega (arith, arrows_in_measured branches, each)

  arrows_in_measured : (trees : Trees) → measured_in arrow_count trees ≡ arrows_in trees
  arrows_in_measured none = refl
  arrows_in_measured (more a rest) = omega (arith, arrows_measured a, arrows_in_measured rest)

pub arrows_pattern : (tree : Tree) (base : ℕ)
    → arrows_of (pattern_table tree base) ≡ whole_arrows tree
arrows_pattern tree base =
    omega (arith, sum_pattern arrow_count arrows_alike tree base, arrows_measured tree)
