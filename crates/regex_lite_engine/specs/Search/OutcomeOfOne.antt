-- What searches return for one pattern, of a regex or of a list: its match, and the cost.
use Rattle.std.specs.Prelude.{◌≡◌, ◌<◌, ◌∷◌, [], ℕ, Bool, IsTrue, List, Option, Some, None, IfSome}
use Rattle.std.specs.Prelude.{chars, is_some, length}
use Rattle.regex_lite_engine.specs.declared.search.outcome.Outcome.{Outcome}
use Rattle.regex_lite_engine.specs.Graph.Places.{Place}
use Rattle.regex_lite_engine.specs.Graph.Renumbered.{arrows_of}
use Rattle.regex_lite_engine.specs.Search.ThreadStarts.{no_start}
use Rattle.regex_lite_engine.specs.Search.Bounds.{StepCounts, IsBounded}
use Rattle.regex_lite_engine.specs.Search.NumberedOutcomes.{Best, IsNumberedEndOf, match_reported}
use Rattle.regex_lite_engine.specs.Search.NumberedOutcomes.{IsAnyTo, IsWantedOutcomeTo}
use Rattle.regex_lite_engine.specs.Search.NumberedOutcomes.{IsNumberedOutcome, with_start_kept}
use Rattle.regex_lite_engine.specs.Search.Offsets.{position_at}
use Rattle.regex_lite_engine.specs.Search.Rows.{Row}

-- the cost of a search from an offset on is within the bounds of the table
abbrev pub IsWithinBounds : List (Place ℕ) → (haystack : List ℕ) → (start : ℕ) → StepCounts
    → Type 0
IsWithinBounds table haystack start steps =
    IsBounded (length table) (arrows_of table) (chars haystack) (position_at haystack start)
    steps.tried steps.entered steps.looked

-- what a search returns: the match that it is for, with this many slots, and the cost
pub record TellsOfSearch (IsSought : Option (ℕ × ℕ × Row) → Type 0) (table : List (Place ℕ))
    (haystack : List ℕ) (start width : ℕ) (reported : Option Outcome × StepCounts) : Type 0 where
  pub found : IsSought (match_reported reported.0)
  pub slots : IfSome reported.0 (λ outcome. length outcome.slots.items ≡ width)
  pub cost : IsWithinBounds table haystack start reported.1
  pub entered : IfSome reported.0 (λ _. 0 < reported.1.entered)

-- the match of the pattern with this entry
abbrev pub TellsOfOne : (table : List (Place ℕ)) → (entry : ℕ) → (haystack : List ℕ)
    → (start width : ℕ) → Option Outcome × StepCounts → Type 0
TellsOfOne table entry haystack start =
    TellsOfSearch
    (IsNumberedOutcome table (chars haystack) entry (position_at haystack start)) table haystack
    start

-- the match of the pattern with this entry among those that start at the offset and are wanted
abbrev pub TellsOfOneAt : (table : List (Place ℕ)) → (entry : ℕ) → (whole : Bool)
    → (haystack : List ℕ) → (start width : ℕ) → Option Outcome × StepCounts → Type 0
TellsOfOneAt table entry whole haystack start =
    TellsOfSearch
    (λ reported. IsWantedOutcomeTo table (chars haystack) (entry ∷ []) whole
    (position_at haystack start) (position_at haystack start) (with_start_kept reported))
    table haystack start

-- whether the pattern with this entry has such a match
pub record TellsAnyOfOneAt (table : List (Place ℕ)) (entry : ℕ) (whole : Bool)
    (haystack : List ℕ) (start : ℕ) (reported : Bool × StepCounts) : Type 0 where
  pub best : Best
  pub found : IsAnyTo table (chars haystack) (entry ∷ []) whole (position_at haystack start)
      (position_at haystack start) best
  pub is_some : reported.0 ≡ is_some best
  pub cost : IsWithinBounds table haystack start reported.1
  pub entered : IsTrue reported.0 → 0 < reported.1.entered

-- a match with this end, of which nothing else is known
abbrev pub ending_at : Option ℕ → Best
ending_at None = None
ending_at (Some end) = Some (no_start, end, [])

-- the least end of any match of the pattern with this entry
pub record TellsEndOfOne (table : List (Place ℕ)) (entry : ℕ) (haystack : List ℕ) (start : ℕ)
    (reported : Option ℕ × StepCounts) : Type 0 where
  pub found : IsNumberedEndOf table (chars haystack) (entry ∷ []) (position_at haystack start)
      (ending_at reported.0)
  pub cost : IsWithinBounds table haystack start reported.1
  pub entered : IfSome reported.0 (λ _. 0 < reported.1.entered)
