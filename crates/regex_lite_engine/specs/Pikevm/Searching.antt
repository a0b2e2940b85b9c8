-- The working memory of a search as one value.
use Rattle.std.specs.Prelude.{◌≡◌, ◌+◌, ◌^◌, ◌≤◌, ◌<◌, ℕ, Bool, true, false, List, [], None, length}
use Rattle.regex_lite_syntax.specs.Text.{Text}
use Rattle.regex_lite_engine.specs.declared.search.here.Here.{Here}
use Rattle.regex_lite_engine.specs.declared.search.patterns.Start.{Start}
use Rattle.regex_lite_engine.specs.declared.pikevm.cache.Cache.{Cache}
use Rattle.regex_lite_engine.specs.Graph.Parts.{row_of}
use Rattle.regex_lite_engine.specs.Graph.Places.{Place, reading_of, stack_bound_of}
use Rattle.regex_lite_engine.specs.Graph.Renumbered.{arrows_of}
use Rattle.regex_lite_engine.specs.Graph.StoredList.{StoredList, table_of_list}
use Rattle.regex_lite_engine.specs.Pikevm.Again.{AreAlike, all_relabelled, state_relabelled}
use Rattle.regex_lite_engine.specs.Pikevm.Again.{best_again}
use Rattle.regex_lite_engine.specs.Search.ThreadStarts.{Reported, TellsStart}
use Rattle.regex_lite_engine.specs.Pikevm.Machine.{Thread}
use Rattle.regex_lite_engine.specs.Pikevm.Capacity.{KeepsPosition, ThreadsBelow, due_tries}
use Rattle.regex_lite_engine.specs.Pikevm.Capacity.{due_entries}
use Rattle.regex_lite_engine.specs.Search.Counting.{IsCountable}
use Rattle.regex_lite_engine.specs.Search.Here.{IsHere}
use Rattle.regex_lite_engine.specs.Pikevm.Stepping.{best_of, with_starts}
use Rattle.regex_lite_engine.specs.Search.Starts.{AreStartsAt}
use Rattle.regex_lite_engine.specs.Pikevm.Stepping.{IsComing, StepsAt, StepsTo, IsReady}
use Rattle.regex_lite_engine.specs.Pikevm.Walking.{SearchAt}
use Rattle.regex_lite_engine.specs.Search.NumberedOutcomes.{Best}

-- the threads that are followed at a position: its threads, and then its own starts
abbrev pub ways_at : {S : Type 0} → List Start → (reported : ℕ → Reported) → Cache S → List Thread
ways_at starts reported cache =
    with_starts starts reported (best_of cache.best) (length cache.walk.memory.row)
    cache.walk.memory.threads

-- the match was complete at this position, or is the one of before
abbrev pub IsMatchFlag : (match_flag : Bool) → (before after : Best) → Type 0
IsMatchFlag true before after = after ≡ None → ⊥
IsMatchFlag false before after = after ≡ before

module _ (table : List (Place ℕ)) where
  -- the search is between two positions
  abbrev pub IsBetween : {S : Type 0} → Cache S → Type 0
  IsBetween cache = IsReady table cache.walk.memory cache.best cache.walk.steps

  -- the search is at a position, before these threads are followed
  pub record IsPlaced {S : Type 0} (ways : List Thread) (cache : Cache S) : Type 0 where
    pub stack_empty : cache.walk.memory.frames ≡ []
    pub stack_room : stack_bound_of table < length table
    pub below : ThreadsBelow (length table) cache.walk.memory.threads
    pub best_width : length cache.best.row ≡ length cache.walk.memory.row
    pub budget : due_tries table cache.walk + length ways < 2 ^ 127

  -- these threads were followed
  pub record Follows {S : Type 0} (whole : Bool) (here : Here) (ways : List Thread)
      (cache cache' : Cache S) : Type 0 where
    pub steps : StepsTo table whole here cache.walk.memory ways (best_of cache.best)
        cache'.walk.memory [] (best_of cache'.best)
    pub spent : due_tries table cache'.walk ≤ due_tries table cache.walk + length ways
    pub spent_entries : due_entries table cache'.walk ≤ due_entries table cache.walk
    pub stack_empty : cache'.walk.memory.frames ≡ []
    pub kept : KeepsPosition cache.walk.memory cache'.walk.memory
    pub best_width : length cache'.best.row ≡ length cache.best.row

  -- a search for all matches would follow these threads in the same way at every position with the
  -- same neighbours, whatever is kept of their starts
  abbrev pub FollowsAgain : {S : Type 0} → Here → (ways : List Thread) → Cache S → Cache S
      → (match_flag : Bool) → Type 0
  FollowsAgain here ways cache cache' match_flag =
      (tell : Reported → Reported) (there : Here) (best : Best) (at : SearchAt) → at.whole ≡ false
      → AreAlike table at.entries here there
      → StepsAt table at there (state_relabelled tell cache.walk.memory) (all_relabelled tell ways)
      best (state_relabelled tell cache'.walk.memory) []
      (best_again tell there.at match_flag (best_of cache'.best) best)

  -- a step holds at every position with the same neighbours at which the same starts suffice,
  -- as long as there is a match in both searches or in neither
  abbrev pub StepsAgain : {S : Type 0} → List Start → Here → (reported : ℕ → Reported) → Cache S
      → Cache S → (match_flag : Bool) → Type 0
  StepsAgain starts here reported cache cache' match_flag =
      (tell : Reported → Reported) (there : Here) (best : Best)
      → ((number : ℕ) → TellsStart (tell (reported number)) there.at number)
      → (best ≡ None → best_of cache.best ≡ None) → (best_of cache.best ≡ None → best ≡ None)
      → (haystack : Text) (entries : List ℕ) (p first last : ℕ)
      → AreAlike table entries here there → IsHere haystack p there
      → first ≤ p → p ≤ last → AreStartsAt table haystack entries p starts
      → IsComing table haystack entries first last p (all_relabelled tell cache.walk.memory.threads)
      best
      → IsComing table haystack entries first last (p + 1)
      (all_relabelled tell cache'.walk.memory.threads)
      (best_again tell there.at match_flag (best_of cache'.best) best)

  -- the cost of a position is within the bounds of this part of the table and this many starts
  pub record SpendsWithin {S : Type 0} (low len starts : ℕ) (cache cache' : Cache S) : Type 0 where
    pub tries :
        cache'.walk.steps.tried + length cache'.walk.memory.threads
        ≤ cache.walk.steps.tried + length cache.walk.memory.threads
        + (arrows_of (row_of table low len) + starts)
    pub entries : cache'.walk.steps.entered ≤ cache.walk.steps.entered + len
    pub few : length cache'.walk.memory.threads ≤ reading_of (row_of table low len)

-- a search from position s on has not begun; there may have been others before
pub record IsFresh {S : Type 0} (table : List (Place ℕ)) (cache : Cache S) : Type 0 where
  pub between : IsBetween table cache
  pub none : best_of cache.best ≡ None
  pub no_threads : cache.walk.memory.threads ≡ []
  pub no_tries : cache.walk.steps.tried ≡ 0
  pub no_entries : cache.walk.steps.entered ≡ 0

-- the cache serves searches for the patterns of the graph; an empty list needs none
abbrev pub GoesOnIn : {S : Type 0} → StoredList → Cache S → Type 0
GoesOnIn list cache =
    0 < length list.entries
    → IsBetween (table_of_list list) cache × IsCountable (table_of_list list)
