-- Searchers, as contracts see them.
use Rattle.std.specs.Prelude.{ℕ, List, Option, Some}
use Rattle.regex_lite_syntax.specs.Tree.{Tree}
use Rattle.regex_lite_engine.specs.Graph.Stored.{StoredGraph, table_of}
use Rattle.regex_lite_engine.specs.Graph.StoredList.{StoredList}
use Rattle.regex_lite_engine.specs.Search.Outcomes.{IsSpanOutcome}
use Rattle.regex_lite_engine.specs.Search.Rows.{Row}
use Rattle.regex_lite_meta.specs.Memories.{SearchesForOne}
use Rattle.regex_lite_meta.specs.Slots.{FindsSlotsIn}
use Rattle.regex_lite_meta.specs.declared.searcher.GraphSearcher.{GraphSearcher}
use Rattle.regex_lite_meta.specs.declared.slot_searcher.SlotSearcher.{SlotSearcher}

-- the memory was made for this graph, and serves searches of it
abbrev pub SearchesGraph : StoredGraph → GraphSearcher → Type 0
SearchesGraph graph searcher = SearchesForOne (table_of graph) graph.start searcher.inner

-- the slots of the last match that was found
abbrev pub row_of_graph : GraphSearcher → Row
row_of_graph searcher = searcher.inner.memory.cache.best.row

-- the memory was made for this graph, and serves searches for the slots of its matches
abbrev pub FindsSlotsOf : StoredGraph → SlotSearcher → Type 0
FindsSlotsOf graph searcher = FindsSlotsIn (table_of graph) searcher.memory

-- the slots that were found last
abbrev pub found_slots : SlotSearcher → Row
found_slots searcher = searcher.memory.cache.best.row

-- a searcher for several patterns
pub record ListSearching : Type 0 where
  pub graph : StoredList
  -- the slots of the last match that was found, whatever its pattern
  pub slots : List (Option ℕ)

-- a search from this offset finds a match with this span, whatever its slots are
abbrev pub FindsSpan : Tree → (haystack : List ℕ) → (start : ℕ) → (span : ℕ × ℕ) → Type 0
FindsSpan tree haystack start span =
    (slots : List (Option ℕ)) × IsSpanOutcome tree haystack start slots (Some span)
