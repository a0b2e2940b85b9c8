-- The transition table of the lazy DFA: its rows, and the next states in them.
use Rattle.std.specs.Prelude.{◌≡◌, ◌+◌, ◌*◌, ◌<◌, ℕ, true, List, Some, length}
use Rattle.std.specs.Prelude.{slice_get, slice_index}
use Rattle.regex_lite_meta.specs.declared.lazy_dfa.state.NextState.{NextState}
use Rattle.regex_lite_meta.specs.LazyDfa.Automaton.{Automaton, State, unknown}
use Rattle.regex_lite_meta.specs.LazyDfa.Intervals.{classes_in}
use Rattle.regex_lite_meta.specs.LazyDfa.Stored.{HasKind, is_known, number_of}

-- this is the start of the row of state x
pub record IsRowOf (automaton : Automaton) (row x : ℕ) : Type 0 where
  pub begins : row ≡ x * classes_in automaton.intervals
  pub within : x < length automaton.states

-- this is the transition from state x by characters of this class
pub record IsNextStateOf (automaton : Automaton) (x class : ℕ) (next_state : NextState) : Type 0
  where
    pub number : (state : State) → slice_get automaton.states x ≡ Some state
        → slice_index state.next class ≡ number_of next_state
    pub known : is_known next_state.kind ≡ true → number_of next_state ≡ unknown → ⊥
    pub row : is_known next_state.kind ≡ true → IsRowOf automaton next_state.row next_state.state
    -- what the kind says about the state
    pub kind : is_known next_state.kind ≡ true → (to : State)
        → slice_get automaton.states next_state.state ≡ Some to → HasKind next_state.kind to

-- in the row of each state there is a transition for each class
abbrev pub AreNextStates : Automaton → List NextState → Type 0
AreNextStates automaton next_states = (row class x : ℕ) → IsRowOf automaton row x
    → class < classes_in automaton.intervals → (next_state : NextState)
    × (slice_get next_states (row + class) ≡ Some next_state) × IsNextStateOf automaton x class
    next_state
