-- The counts of a search of a table, and that they don't overflow.
use Rattle.std.specs.Prelude.{◌+◌, ◌*◌, ◌^◌, ◌<◌, ℕ, List, length}
use Rattle.regex_lite_engine.specs.Graph.Places.{Place}
use Rattle.regex_lite_engine.specs.Graph.Renumbered.{arrow_count, arrows_of}

abbrev pub lone : Place ℕ → ℕ
lone place = 1

-- a number greater than that of the frames that entering a place pushes
abbrev pub weight : Place ℕ → ℕ
weight place = arrow_count place + 1

-- the places and the arrows of the table can be numbered
pub record IsCountable (table : List (Place ℕ)) : Type 0 where
  pub few_places : length table < 2 ^ 32
  pub few_arrows : arrows_of table < 2 ^ 34

-- the counts of a search for this many patterns over this many characters don't overflow
pub record CanCount (table : List (Place ℕ)) (patterns characters : ℕ) : Type 0 where
  pub tries : (arrows_of table + patterns) * (characters + 1) < 2 ^ 127
  pub entries : length table * (characters + 1) < 2 ^ 127
