-- A step is independent of the position and of where threads began: it holds at every
-- position with the same neighbours, whatever is known of the starts, if no slots are kept.
use Rattle.std.specs.Prelude.{◌≡◌, ℕ, Bool, true, false, List, []}
use Rattle.std.specs.Prelude.{◌∷◌, map, slice_get, Option, Some, None}
use Rattle.regex_lite_syntax.specs.Tree.Looks.{holds_between}
use Rattle.regex_lite_engine.specs.declared.search.here.Here.{Here}
use Rattle.regex_lite_engine.specs.Graph.Parts.{IsOwnPart, IsWithin}
use Rattle.regex_lite_engine.specs.Graph.Places.{Arrow, Condition, free, holding}
use Rattle.regex_lite_engine.specs.Graph.Places.{reading, Place, complete, with_arrows}
use Rattle.regex_lite_engine.specs.Search.ThreadStarts.{Reported}
use Rattle.regex_lite_engine.specs.Pikevm.Entering.{reads}
use Rattle.regex_lite_engine.specs.Pikevm.Machine.{State, Thread}
use Rattle.regex_lite_engine.specs.Search.NumberedOutcomes.{Best}

-- the condition is met between these neighbours
abbrev pub is_met : Condition → (before after : Option ℕ) → Bool
is_met free before after = true
is_met (holding test) before after = holds_between test before after
is_met (reading set) before after = reads set after

-- the conditions of the arrows are met at one position exactly if they are met at the other
abbrev pub FitAlike : List (Arrow ℕ) → (here there : Here) → Type 0
FitAlike [] here there = Unit {0}
FitAlike (arrow ∷ arrows) here there =
    (is_met arrow.condition here.before here.after
    ≡ is_met arrow.condition there.before there.after)
    × FitAlike arrows here there

abbrev pub FitsAlike : Place ℕ → (here there : Here) → Type 0
FitsAlike complete here there = Unit {0}
FitsAlike (with_arrows arrows) here there = FitAlike arrows here there

-- no place that searches for these patterns can reach distinguishes the two positions
pub record AreAlike (table : List (Place ℕ)) (entries : List ℕ) (here there : Here) : Type 0 where
  pub low : ℕ
  pub len : ℕ
  pub part : IsOwnPart table entries low len
  pub each : (q : ℕ) (place : Place ℕ) → IsWithin low len q → slice_get table q ≡ Some place
      → FitsAlike place here there

-- the thread, with something else known of its start
abbrev pub relabelled : (Reported → Reported) → Thread → Thread
relabelled tell thread = (thread.0, tell thread.1, [])

abbrev pub all_relabelled : (Reported → Reported) → List Thread → List Thread
all_relabelled tell threads = map (relabelled tell) threads

abbrev pub state_relabelled : (Reported → Reported) → State → State
state_relabelled tell state = record state { row = []; next = all_relabelled tell state.next }

-- the best match after the step: the one before, or one that ends at this offset
abbrev pub best_again : (Reported → Reported) → (at : ℕ) → (match_flag : Bool)
    → (found before : Best) → Best
best_again tell at false found before = before
best_again tell at true None before = before
best_again tell at true (Some found) before = Some (tell found.0, at, [])
