-- Searchers with a lazy DFA.
use Rattle.std.specs.Prelude.{◌≡◌, ℕ, List, [], ◌∷◌, Option, IfSome, length, option_map}
use Rattle.regex_lite_meta.specs.declared.lazy_dfa.list_spans.ListSpanSearcher.{ListSpanSearcher}
use Rattle.regex_lite_meta.specs.declared.lazy_dfa.spans.SpanSearcher.{SpanSearcher}
use Rattle.regex_lite_engine.specs.Graph.Places.{Place}
use Rattle.regex_lite_engine.specs.Graph.StoredList.{StoredList, table_of_list}
use Rattle.regex_lite_meta.specs.LazyDfa.Automaton.{Automaton, IsDfaOf}
use Rattle.regex_lite_engine.specs.Search.Counting.{IsCountable}
use Rattle.regex_lite_engine.specs.Pikevm.Searching.{GoesOnIn, IsBetween}

-- all cached transitions are those of searches for these entries of the table
pub record IsDfaFor (table : List (Place ℕ)) (entries : List ℕ) (automaton : Automaton)
    : Type 0 where
  pub is_dfa : IsDfaOf table entries automaton
  pub none_pending : automaton.pending ≡ []

-- if there is a lazy DFA, its cache is right, and no slots are kept
abbrev pub IsDfaIfSome : (table : List (Place ℕ)) → (entries : List ℕ) → (slots : ℕ)
    → Option Automaton → Type 0
IsDfaIfSome table entries slots automaton =
    IfSome automaton (λ automaton. IsDfaFor table entries automaton × (slots ≡ 0))

-- the memory serves searches for the pattern with this entry, and has no slots
pub record FindsSpansIn (table : List (Place ℕ)) (entry : ℕ) (spans : SpanSearcher)
    : Type 0 where
  pub is_dfa : IfSome spans.dfa (IsDfaFor table (entry ∷ []))
  pub between : IsBetween table spans.cache
  pub width : length spans.cache.walk.memory.row ≡ 0
  pub countable : IsCountable table

-- the memory serves searches for the patterns of the list
pub record FindsSpansInList (list : StoredList) (spans : ListSpanSearcher) : Type 0 where
  pub table : table_of_list spans.patterns.list.now ≡ table_of_list list
  pub entries : spans.patterns.list.now.entries ≡ list.entries
  pub goes_on : GoesOnIn list spans.cache
  pub is_dfa : IsDfaIfSome (table_of_list list) list.entries (length spans.cache.best.row)
      (option_map (λ dfa. dfa.value) spans.dfa)
