-- The memory of searches for slots.
use Rattle.std.specs.Prelude.{◌≡◌, ◌<◌, ℕ, List, Option, Some, None, IfSome, length}
use Rattle.regex_lite_meta.specs.declared.slots.SlotCache.{SlotCache}
use Rattle.regex_lite_engine.specs.Backtrack.Short.{SearchesShort}
use Rattle.regex_lite_engine.specs.declared.backtrack.short.ShortSearcher.{ShortSearcher}
use Rattle.regex_lite_engine.specs.Graph.Places.{Place}
use Rattle.regex_lite_engine.specs.Graph.StoredList.{StoredList, table_of_list}
use Rattle.regex_lite_engine.specs.Pikevm.Searching.{IsBetween}
use Rattle.regex_lite_engine.specs.Search.Counting.{IsCountable}
use Rattle.regex_lite_engine.specs.Search.Rows.{Row}

-- the memory serves short searches of the table for this many slots
pub record FindsShortSlots (table : List (Place ℕ)) (slots : ℕ) (short : ShortSearcher) : Type 0
  where
    pub searches : SearchesShort table short
    pub width : length short.walk.stack.row ≡ slots

-- the memory serves searches of the table, for as many slots as its row has
pub record FindsSlotsIn (table : List (Place ℕ)) (memory : SlotCache) : Type 0 where
  pub between : IsBetween table memory.cache
  pub countable : IsCountable table
  pub short : IfSome memory.short (λ boxed.
      FindsShortSlots table (length memory.cache.best.row) boxed.value)

-- the slots of the last match: from the separate search for slots if there is one, otherwise those
-- that the search for the match has kept
abbrev pub kept_row : Row → Option SlotCache → Row
kept_row row None = row
kept_row row (Some memory) = memory.cache.best.row

-- the memory serves searches for the slots of the list's matches, whose spans are found without
-- slots; an empty list needs none
abbrev pub FindsListSlots : StoredList → (slots : ℕ) → Option SlotCache → Type 0
FindsListSlots list slots memory =
    IfSome memory (λ memory. (slots ≡ 0)
    × (0 < length list.entries → FindsSlotsIn (table_of_list list) memory))
