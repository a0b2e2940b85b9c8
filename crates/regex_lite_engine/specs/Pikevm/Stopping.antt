-- The position at which a search stops, and the reason.
use Rattle.std.specs.Prelude.{◌≡◌, ◌⊎◌, ◌+◌, ◌≤◌, ℕ, Bool, true, false, List, length}
use Rattle.std.specs.Prelude.{Option, Some, None}
use Rattle.regex_lite_syntax.specs.Text.{Text}
use Rattle.regex_lite_syntax.specs.Tree.Matches.{IsPosition}
use Rattle.regex_lite_engine.specs.declared.search.here.Here.{Here}
use Rattle.regex_lite_engine.specs.declared.pikevm.cache.Cache.{Cache}
use Rattle.regex_lite_engine.specs.Graph.Places.{Place}
use Rattle.regex_lite_engine.specs.Pikevm.Machine.{Thread}
use Rattle.regex_lite_engine.specs.Pikevm.Passing.{IsUnderWay}
use Rattle.regex_lite_engine.specs.Pikevm.Stepping.{best_of, IsComing, EndsAt}
use Rattle.regex_lite_engine.specs.Search.NumberedOutcomes.{Best}
use Rattle.regex_lite_engine.specs.Search.Offsets.{offset}
use Rattle.regex_lite_engine.specs.Search.Here.{IsHere}

module _ (table : List (Place ℕ)) (haystack : Text) (entries : List ℕ) (first : ℕ) where
  -- no match was complete before position p, and if there is a match it ends at p
  pub record EndsFirst (p : ℕ) (best : Best) : Type 0 where
    pub threads : List Thread
    pub none : IsComing table haystack entries first (length haystack) p threads None
    pub ends : EndsAt (offset haystack p) None best

  -- a search is over after position p: it is the last position, or there is a match, and either the
  -- least end is asked for or no thread is left
  pub record IsDone (earliest : Bool) (p : ℕ) (threads : List Thread) (best : Best) : Type 0 where
    pub low : first ≤ p
    pub inside : IsPosition haystack p
    pub known :
        (p ≡ length haystack)
        ⊎ ((best ≡ None → ⊥) × (earliest ≡ false → length threads ≡ 0))
    pub ends : earliest ≡ true → EndsFirst p best

  -- the search stops before position q, since its budget is used up or it is over
  abbrev pub StopsBefore : (earliest : Bool) → (q : ℕ) → List Thread → Best → Option Here → Type 0
  StopsBefore earliest q threads best (Some here) =
      IsHere haystack q here × (earliest ≡ true → best ≡ None)
  StopsBefore earliest q threads best None =
      (p : ℕ) × (q ≡ p + 1) × IsDone earliest p threads best

  -- the search continued from position p until it stopped
  pub record Stops {S : Type 0} (earliest : Bool) (p : ℕ) (cache cache' : Cache S)
      (stands : Option Here) : Type 0 where
    pub q : ℕ
    pub on : IsUnderWay table haystack entries first q cache'
    pub why : StopsBefore earliest q cache'.walk.memory.threads (best_of cache'.best) stands
