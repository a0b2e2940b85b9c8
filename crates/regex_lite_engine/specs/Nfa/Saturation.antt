-- The counts of a tree before anything is written: numbers that saturate.
use Rattle.std.specs.Prelude.{◌≡◌, ℕ, ◌+◌, ◌-◌, ◌^◌, min}
use Rattle.regex_lite_syntax.specs.Tree.{Tree}
use Rattle.regex_lite_syntax.specs.Tree.Properties.{ArePropertiesOf}
use Rattle.regex_lite_engine.specs.Graph.PlaceCounts as count
use Rattle.regex_lite_engine.specs.Graph.Size as size
use Rattle.regex_lite_engine.specs.declared.count.Counts.{Counts}

-- the number, or the greatest number that can be stored if that is less
abbrev pub saturated : ℕ → ℕ
saturated n = min n (2 ^ 64 - 1)

-- the counts are those of the tree
pub record AreCountsOf (tree : Tree) (counts : Counts) : Type 0 where
  pub places : counts.places ≡ saturated (count.places tree)
  pub arrows : counts.arrows ≡ saturated (count.arrows tree)
  pub choice_arrows : counts.choice_arrows ≡ saturated (count.choice_arrows tree)
  pub reading : counts.reading ≡ saturated (count.reading_places tree)
  pub ranges : counts.ranges ≡ saturated (count.ranges tree)
  pub names_size : counts.names_size ≡ saturated (size.names_size tree)
  pub properties : ArePropertiesOf tree counts.properties

-- the numbers are the saturated sums of the two
pub record AreSumsOf (a b sum : Counts) : Type 0 where
  pub places : sum.places ≡ saturated (a.places + b.places)
  pub arrows : sum.arrows ≡ saturated (a.arrows + b.arrows)
  pub choice_arrows : sum.choice_arrows ≡ saturated (a.choice_arrows + b.choice_arrows)
  pub reading : sum.reading ≡ saturated (a.reading + b.reading)
  pub ranges : sum.ranges ≡ saturated (a.ranges + b.ranges)
  pub names_size : sum.names_size ≡ saturated (a.names_size + b.names_size)
