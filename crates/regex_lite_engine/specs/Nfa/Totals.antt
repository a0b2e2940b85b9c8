-- The total counts of several patterns.
use Rattle.std.specs.Prelude.{◌≡◌, ◌≤◌, ◌+◌, ◌*◌, ℕ, List, sum_by}
use Rattle.regex_lite_syntax.specs.Tree.{Tree}
use Rattle.regex_lite_engine.specs.declared.count.totals.Totals.{Totals}
use Rattle.regex_lite_engine.specs.Graph.PlaceCounts.{reading_places, whole_arrows, whole_places}
use Rattle.regex_lite_engine.specs.Graph.SideBySide.{places_of_all, arrows_of_all}

-- the number of places of all patterns that read a character
abbrev pub reading_of_all : List Tree → ℕ
reading_of_all trees = sum_by reading_places trees

-- these are the totals after one more pattern is added; the numbers of arrows and of places that
-- read stay bounded by the number of places
pub record AreTotalsWith (before : Totals) (tree : Tree) (after : Totals) : Type 0 where
  pub places : after.places ≡ before.places + whole_places tree
  pub arrows : after.arrows ≡ before.arrows + whole_arrows tree
  pub reading : after.reading ≡ before.reading + reading_places tree
  pub few_arrows : after.arrows ≤ 2 * after.places
  pub few_reading : after.reading ≤ after.places

-- the totals are those of all patterns
pub record AreTotalsOf (trees : List Tree) (totals : Totals) : Type 0 where
  pub places : totals.places ≡ places_of_all trees
  pub arrows : totals.arrows ≡ arrows_of_all trees
  pub reading : totals.reading ≡ reading_of_all trees
