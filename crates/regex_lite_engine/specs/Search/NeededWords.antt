-- Words of which one stands in each match of any of several patterns.
use Rattle.std.specs.Prelude.{ℕ, List}
use Rattle.regex_lite_syntax.specs.Text.{Text}
use Rattle.regex_lite_syntax.specs.Prefilter.Needed.{IsOutOfReach, NeededWords}
use Rattle.regex_lite_engine.specs.Graph.Places.{Place}
use Rattle.regex_lite_engine.specs.Search.Starts.{AreDeadAt}

-- where none of them is reached, no way from an entry leads to a complete match
abbrev pub IsNeededByAny : List (Place ℕ) → (entries : List ℕ) → NeededWords → Type 0
IsNeededByAny table entries needed =
    (haystack : Text) (i : ℕ) → IsOutOfReach needed haystack i
    → AreDeadAt table haystack entries i
