-- The memory of searchers.
use Rattle.std.specs.Prelude.{◌≡◌, ◌∷◌, [], ℕ, List, IfSome, length, option_map}
use Rattle.regex_lite_meta.specs.declared.list_searcher.Inner.{Inner}
use Rattle.regex_lite_meta.specs.declared.list_searcher.Inner.TheVariants.{One, Several, Words}
use Rattle.regex_lite_meta.specs.declared.pattern_searcher.PatternSearcher.{PatternSearcher}
use Rattle.regex_lite_meta.specs.declared.several_searcher.SeveralSearcher.{SeveralSearcher}
use Rattle.regex_lite_engine.specs.Graph.Places.{Place}
use Rattle.regex_lite_engine.specs.Graph.StoredList.{StoredList, table_of_list}
use Rattle.regex_lite_engine.specs.Search.NumberedWords.{AreAnsweredBy, IsEachAnsweredBy}
use Rattle.regex_lite_engine.specs.Search.Rows.{Row}
use Rattle.regex_lite_meta.specs.LazyDfa.Spans.{FindsSpansIn, FindsSpansInList, IsDfaIfSome}
use Rattle.regex_lite_meta.specs.Slots.{FindsListSlots, FindsSlotsIn, kept_row}

-- the memory serves searches for the pattern with this entry
pub record SearchesForOne (table : List (Place ℕ)) (entry : ℕ) (searcher : PatternSearcher)
    : Type 0 where
  pub memory : FindsSlotsIn table searcher.memory
  pub dfa : IsDfaIfSome table (entry ∷ []) (length searcher.memory.cache.best.row)
      (option_map (λ dfa. dfa.value) searcher.dfa)
  pub spans : IfSome searcher.spans (λ boxed. FindsSpansIn table entry boxed.value)

-- the slots of the last match of any pattern
abbrev pub row_of_several : SeveralSearcher → Row
row_of_several several =
    kept_row several.spans.cache.best.row (option_map (λ boxed. boxed.value) several.slots)

-- the memory serves searches for the patterns of the list
pub record SearchesForSeveral (list : StoredList) (searcher : SeveralSearcher) : Type 0 where
  pub spans : FindsSpansInList list searcher.spans
  pub slots : FindsListSlots list (length searcher.spans.cache.best.row)
      (option_map (λ boxed. boxed.value) searcher.slots)

-- the slots of the last match that a searcher of a list has found
abbrev pub row_of_list : Inner → Row
row_of_list (One one) = one.memory.cache.best.row
row_of_list (Words words) = []
row_of_list (Several several) = row_of_several several

-- the memory serves searches for the list: one with a single pattern, one whose patterns are plain
-- words, or any other
abbrev pub SearchesList : StoredList → Inner → Type 0
SearchesList list (One one) =
    (entry : ℕ) × (list.entries ≡ entry ∷ []) × SearchesForOne (table_of_list list) entry one
SearchesList list (Words words) =
    AreAnsweredBy (table_of_list list) list.entries words.now
    × IsEachAnsweredBy (table_of_list list) list.entries words.now
SearchesList list (Several several) = SearchesForSeveral list several
