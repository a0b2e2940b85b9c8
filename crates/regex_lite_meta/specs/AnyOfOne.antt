-- Whether a pattern, of a regex or alone in a list, has a match, and the cost of the search for
-- one.
use Rattle.std.specs.Prelude.{◌↔◌, ◌<◌, ◌∷◌, [], ℕ, Bool, List, IsTrue, chars}
use Rattle.regex_lite_syntax.specs.Text.{Text}
use Rattle.regex_lite_engine.specs.Graph.Places.{Place}
use Rattle.regex_lite_engine.specs.Search.Bounds.{StepCounts}
use Rattle.regex_lite_engine.specs.Search.NumberedList.{IsMatchOfAny}
use Rattle.regex_lite_engine.specs.Search.Offsets.{position_at}
use Rattle.regex_lite_engine.specs.Search.OutcomeOfOne.{IsWithinBounds}

-- one of the patterns with these entries has a match that starts at position s or later
abbrev pub HasMatchOfAny : List (Place ℕ) → Text → (entries : List ℕ) → (s : ℕ) → Type 0
HasMatchOfAny table haystack entries s =
    (i : ℕ) × (k : ℕ) × (way : List ℕ) × (q : ℕ) × (j : ℕ)
    × IsMatchOfAny table haystack entries s i k way q j

-- the result says whether the pattern with this entry has a match that starts at or after the
-- offset
pub record TellsAnyOfOne (table : List (Place ℕ)) (entry : ℕ) (haystack : List ℕ) (start : ℕ)
    (reported : Bool × StepCounts) : Type 0 where
  pub found : IsTrue reported.0
      ↔ HasMatchOfAny table (chars haystack) (entry ∷ []) (position_at haystack start)
  pub cost : IsWithinBounds table haystack start reported.1
  pub entered : IsTrue reported.0 → 0 < reported.1.entered
