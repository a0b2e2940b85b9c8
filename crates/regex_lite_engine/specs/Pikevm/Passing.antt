-- Moving from one position of a search to a later one.
use Rattle.std.specs.Prelude.{◌≡◌, ◌⊎◌, ◌+◌, ◌-◌, ◌*◌, ◌≤◌, ℕ, Bool, false, List, [], length}
use Rattle.std.specs.Prelude.{None}
use Rattle.regex_lite_syntax.specs.Text.{Text}
use Rattle.regex_lite_engine.specs.declared.search.here.Here.{Here}
use Rattle.regex_lite_engine.specs.declared.pikevm.cache.Cache.{Cache}
use Rattle.regex_lite_engine.specs.Graph.Parts.{IsOwnPart, row_of}
use Rattle.regex_lite_engine.specs.Graph.Places.{Place, reading_of}
use Rattle.regex_lite_engine.specs.Graph.Renumbered.{arrows_of}
use Rattle.regex_lite_engine.specs.Pikevm.Searching.{IsBetween}
use Rattle.regex_lite_engine.specs.Search.Here.{IsHere}
use Rattle.regex_lite_engine.specs.Search.Starts.{AreDeadAt, PassesTo}
use Rattle.regex_lite_engine.specs.Pikevm.Machine.{Thread}
use Rattle.regex_lite_engine.specs.Pikevm.Stepping.{best_of, IsComing, IsComingTo, EndsAt}
use Rattle.regex_lite_engine.specs.Search.NumberedOutcomes.{Best}

-- A search at position p continues here: without thread and match, it skips positions at which no
-- match can start
abbrev pub GoesOnAt : List (Place ℕ) → Text → (entries : List ℕ) → List Thread → Best → (p : ℕ)
    → Here → Type 0
GoesOnAt table haystack entries threads best p here =
    IsHere haystack p here
    ⊎ ((threads ≡ []) × (best ≡ None)
    × PassesTo (AreDeadAt table haystack entries) haystack p here)

module _ (table : List (Place ℕ)) (haystack : Text) (starts : List ℕ) (first : ℕ) where
  -- the cost of a search up to position p is within the bounds of this part of the table, and it
  -- has at most as many threads as places of the part read a character
  pub record HasSpentWithin {S : Type 0} (low len p : ℕ) (cache : Cache S) : Type 0 where
    pub tries :
        cache.walk.steps.tried + length cache.walk.memory.threads
        ≤ (arrows_of (row_of table low len) + length starts) * (p - first)
    pub entries : cache.walk.steps.entered ≤ len * (p - first)
    pub few : length cache.walk.memory.threads ≤ reading_of (row_of table low len)

  -- a search for matches that are wanted and start from position `first` to `last` has reached
  -- position p
  pub record IsUnderWayTo {S : Type 0} (whole : Bool) (last p : ℕ) (cache : Cache S)
      : Type 0 where
    pub low : first ≤ p
    pub ready : IsBetween table cache
    pub coming : IsComingTo table haystack starts whole first last p cache.walk.memory.threads
        (best_of cache.best)
    pub tries :
        cache.walk.steps.tried + length cache.walk.memory.threads
        ≤ (arrows_of table + length starts) * (p - first)
    pub entries : cache.walk.steps.entered ≤ length table * (p - first)
    -- the cost is within the bounds of any part that has the patterns
    pub own : (low len : ℕ) → IsOwnPart table starts low len → HasSpentWithin low len p cache

  -- a search for all matches that start from position `first` on has reached position p
  abbrev pub IsUnderWay : {S : Type 0} → (p : ℕ) → Cache S → Type 0
  IsUnderWay p cache = IsUnderWayTo false (length haystack) p cache

  -- the search has taken the step at a position that isn't before p
  pub record Passes {S : Type 0} (p : ℕ) (cache cache' : Cache S) (here : Here) : Type 0 where
    pub q : ℕ
    pub later : p ≤ q
    pub is : IsHere haystack q here
    pub before : IsComing table haystack starts first (length haystack) q cache.walk.memory.threads
        (best_of cache.best)
    pub ends : EndsAt here.at (best_of cache.best) (best_of cache'.best)
    pub after : IsUnderWay (q + 1) cache'
