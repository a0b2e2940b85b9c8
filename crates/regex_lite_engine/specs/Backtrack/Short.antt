-- The bounded backtracker for short haystacks, which reuses its memory.
use Rattle.std.specs.Prelude.{◌*◌, ◌≤◌, ℕ, List, length, sum_by}
use Rattle.regex_lite_engine.specs.declared.backtrack.short.ShortSearcher.{ShortSearcher}
use Rattle.regex_lite_engine.specs.Graph.Places.{Place, stack_bound_with}
use Rattle.regex_lite_engine.specs.Search.Counting.{IsCountable}

-- there is room for a search of the table over the greatest number of offsets
pub record SearchesShort (table : List (Place ℕ)) (searcher : ShortSearcher) : Type 0 where
  pub room :
      sum_by (stack_bound_with (length searcher.walk.stack.row)) table * searcher.offsets
      ≤ searcher.walk.stack.room
  -- a bit for each pair of a place and an offset
  pub pairs : length table * searcher.offsets ≤ searcher.walk.visited.room
  pub countable : IsCountable table
