-- Adding states to the lazy DFA.
use Rattle.std.specs.Prelude.{◌≡◌, ◌<◌, ℕ, Bool, List, Option, Some, slice_get, slice_index}
use Rattle.regex_lite_meta.specs.declared.lazy_dfa.state.LookContext.{LookContext}
use Rattle.regex_lite_meta.specs.LazyDfa.Automaton.{Automaton, State, StoredStart, Way, unknown}
use Rattle.regex_lite_meta.specs.LazyDfa.Intervals.{classes_in}

-- the state with this number has these ways and properties
pub record IsState (automaton : Automaton) (y : ℕ) (all : List Way) (goes_on : Bool)
    (context : LookContext) (last : Option StoredStart) (anew : Bool) : Type 0 where
  pub state : State
  pub is : slice_get automaton.states y ≡ Some state
  pub ways : state.ways ≡ all
  pub searching : state.searching ≡ goes_on
  pub before : state.before ≡ context
  pub match_flag : state.match_flag ≡ last
  pub restarts : state.restarts ≡ anew

-- all states are still there, and a new one has no cached transition
pub record Extends (old new : Automaton) : Type 0 where
  pub intervals : new.intervals ≡ old.intervals
  pub reach : new.reach ≡ old.reach
  pub kept : (x : ℕ) (state : State) → slice_get old.states x ≡ Some state
      → slice_get new.states x ≡ Some state
  pub fresh : (x : ℕ) (state : State) → slice_get new.states x ≡ Some state
      → (slice_get old.states x ≡ Some state → ⊥)
      → (state.ways ≡ old.pending)
      × ((class : ℕ) → class < classes_in old.intervals → slice_index state.next class ≡ unknown)
