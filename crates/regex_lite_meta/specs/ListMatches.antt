-- Which of several patterns match, by a search for each.
use Rattle.std.specs.Prelude.{◌≡◌, ◌+◌, ◌<◌, ◌∷◌, [], ℕ, Bool, List, IfSome, IsTrue, is_some}
use Rattle.std.specs.Prelude.{length}
use Rattle.std.specs.Prelude.{Option, Some, None}
use Rattle.regex_lite_syntax.specs.Text.{Text}
use Rattle.regex_lite_engine.specs.Graph.Parts.{IsOwnPart, row_of}
use Rattle.regex_lite_engine.specs.Graph.Places.{Place}
use Rattle.regex_lite_engine.specs.Graph.Renumbered.{arrows_of}
use Rattle.regex_lite_engine.specs.Graph.StoredList.{StoredList, table_of_list}
use Rattle.regex_lite_engine.specs.Pikevm.Searching.{GoesOnIn, IsBetween}
use Rattle.regex_lite_engine.specs.Search.Bounds.{IsBoundedBy, StepCounts}
use Rattle.regex_lite_engine.specs.Search.Counting.{IsCountable}
use Rattle.regex_lite_engine.specs.Search.NumberedOutcomes.{Best, IsNumberedEndOf}
use Rattle.regex_lite_meta.specs.declared.list_matches.kept.Kept.{Kept}
use Rattle.regex_lite_meta.specs.declared.list_matches.kept.DfaSearcher.{DfaSearcher}

-- the result says whether the pattern with this entry matches from position m on, and the cost of
-- the search for it, which is within the bounds of any part that has the pattern
pub record IsReportedOf (table : List (Place ℕ)) (haystack : Text) (entry m : ℕ)
    (reported : Bool × StepCounts) : Type 0 where
  pub best : Best
  pub is : reported.0 ≡ is_some best
  pub end : IsNumberedEndOf table haystack (entry ∷ []) m best
  pub own : (low len : ℕ) → IsOwnPart table (entry ∷ []) low len
      → IsBoundedBy len (arrows_of (row_of table low len) + 1) haystack m reported.1.tried
      reported.1.entered reported.1.looked
  pub entered : IsTrue reported.0 → 0 < reported.1.entered

-- the memory serves searches for single patterns of the list
pub record IsDfaSearcherFor (list : StoredList) (dfa_searcher : DfaSearcher) : Type 0 where
  pub between : IsBetween (table_of_list list) dfa_searcher.cache
  pub countable : IsCountable (table_of_list list)
  pub width : length dfa_searcher.cache.walk.memory.row ≡ 0

-- what is kept is for searches of this list
pub record AreKeptFor (list : StoredList) (kept : Kept) : Type 0 where
  pub sets : IfSome kept.sets (GoesOnIn list)
  pub dfa_searcher : IfSome kept.dfa_searcher
      (λ dfa_searcher. IsDfaSearcherFor list dfa_searcher.value)

-- the memory of the PikeVM is there, and no other memory is needed
abbrev pub NeedsNoMemory : Kept → Type 0
NeedsNoMemory kept = kept.sets ≡ None → ⊥

-- all memory for searches of this list is there; an empty list needs none
abbrev pub IsReadyFor : StoredList → Option Kept → Type 0
IsReadyFor list None = length list.entries ≡ 0
IsReadyFor list (Some kept) = AreKeptFor list kept × NeedsNoMemory kept
