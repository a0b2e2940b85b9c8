-- How the states of the lazy DFA are stored.
use Rattle.std.specs.Prelude.{◌≡◌, ◌+◌, ◌*◌, ◌<◌, ◌≤◌, ℕ, Bool, true, false, All, List, [], ◌∷◌}
use Rattle.std.specs.Prelude.{length, take, drop, map, slice_get, Option, Some, None}
use Rattle.regex_lite_meta.specs.declared.lazy_dfa.state.TransitionKind as kinds
use Rattle.regex_lite_meta.specs.declared.lazy_dfa.state.TransitionKind.TheVariants as kind
use Rattle.regex_lite_meta.specs.declared.lazy_dfa.state.MatchFlag as code
use Rattle.regex_lite_meta.specs.declared.lazy_dfa.state.MatchFlag.TheVariants as stored
use Rattle.regex_lite_meta.specs.declared.lazy_dfa.state.StoredState.{StoredState}
use Rattle.regex_lite_meta.specs.declared.lazy_dfa.state.StoredWay.{StoredWay}
use Rattle.regex_lite_meta.specs.declared.lazy_dfa.state.NextState.{NextState}
use Rattle.regex_lite_meta.specs.LazyDfa.Automaton.{StoredStart, Way, State, unknown}

abbrev pub way_in : StoredWay → Way
way_in way = record {
  place = way.place;
  match_start = record { first = way.is_first; number = Some way.number };
}

abbrev pub match_flag_in : code.MatchFlag → Option StoredStart
match_flag_in stored.Nowhere = None
match_flag_in (stored.AtFirst number) = Some (record { first = true; number = Some number })
match_flag_in (stored.AtLater number) = Some (record { first = false; number = Some number })

-- whether a transition of this kind is cached
abbrev pub is_known : kinds.TransitionKind → Bool
is_known kind.NonSpecial = true
is_known kind.Completes = true
is_known kind.Empties = true
is_known kind.Ends = true
is_known kind.Restarts = true
is_known kind.ByState = true
is_known kind.Unknown = false

abbrev pub number_if : (is_known : Bool) → ℕ → ℕ
number_if true y = y
number_if false y = unknown

-- the number of the state to which the transition leads
abbrev pub number_of : NextState → ℕ
number_of next_state = number_if (is_known next_state.kind) next_state.state

-- the state, whose ways lie among those of all states, and whose row is this
abbrev pub state_in : List StoredWay → List NextState → StoredState → State
state_in ways next_states state = record {
  ways = map way_in (take state.len (drop state.from ways));
  searching = state.searching;
  before = state.before;
  match_flag = match_flag_in state.match_flag;
  restarts = state.restarts;
  next = map number_of next_states;
}

-- the states, each of which has its own row, with a transition for each class
abbrev pub states_in : List StoredWay → (classes : ℕ) → List NextState → List StoredState → List
    State
states_in ways classes next_states [] = []
states_in ways classes next_states (state ∷ states) =
    state_in ways (take classes next_states) state
    ∷ states_in ways classes (drop classes next_states) states

-- the ways of each state lie among the first `used` ways
abbrev pub LieWithin : (used : ℕ) → List StoredState → Type 0
LieWithin used states = All (λ state. state.from + state.len ≤ used) states

-- the start of the match that a transition of this kind completes, if it is known that the
-- transition leads to a state with ways
abbrev pub known_match_flag : kinds.TransitionKind → Option (Option StoredStart)
known_match_flag kind.NonSpecial = Some None
known_match_flag kind.Completes = Some (match_flag_in (stored.AtFirst 0))
known_match_flag kind.Empties = None
known_match_flag kind.Ends = None
known_match_flag kind.Restarts = Some None
known_match_flag kind.ByState = None
known_match_flag kind.Unknown = None

-- the start of the match that a transition of this kind completes, if it is known that the
-- transition leads to a state without ways
abbrev pub last_match_flag : kinds.TransitionKind → Option (Option StoredStart)
last_match_flag kind.NonSpecial = None
last_match_flag kind.Completes = None
last_match_flag kind.Empties = Some None
last_match_flag kind.Ends = Some (match_flag_in (stored.AtFirst 0))
last_match_flag kind.Restarts = None
last_match_flag kind.ByState = None
last_match_flag kind.Unknown = None

-- whether the position of a transition of this kind is the first start from then on
abbrev pub is_restarting : kinds.TransitionKind → Bool
is_restarting kind.NonSpecial = false
is_restarting kind.Completes = false
is_restarting kind.Empties = false
is_restarting kind.Ends = false
is_restarting kind.Restarts = true
is_restarting kind.ByState = false
is_restarting kind.Unknown = false

-- a transition of this kind can lead to this state
pub record HasKind (e : kinds.TransitionKind) (state : State) : Type 0 where
  pub goes : (match_flag : Option StoredStart) → known_match_flag e ≡ Some match_flag
      → (state.ways ≡ [] → ⊥) × (state.match_flag ≡ match_flag) × (state.restarts ≡ is_restarting e)
  pub ends : (match_flag : Option StoredStart) → last_match_flag e ≡ Some match_flag
      → (state.ways ≡ []) × (state.match_flag ≡ match_flag)

-- the state with this number has no ways, and this is the start of the match that is complete
pub record HasNoWays (states : List StoredState) (y : ℕ) (match_flag : Option StoredStart)
    : Type 0 where
  pub state : StoredState
  pub is_state : slice_get states y ≡ Some state
  pub none : state.len ≡ 0
  pub same : match_flag_in state.match_flag ≡ match_flag

-- the state with this number has ways, this is the start of the match that is complete, and this is
-- whether the last position is the first start from then on
pub record HasWays (states : List StoredState) (y : ℕ) (match_flag : Option StoredStart)
    (restarts : Bool) : Type 0 where
  pub state : StoredState
  pub is_state : slice_get states y ≡ Some state
  pub some : 0 < state.len
  pub same : match_flag_in state.match_flag ≡ match_flag
  pub first : state.restarts ≡ restarts

-- if the transition is cached, it has the number of a state and the start of its row, and its kind
-- agrees with the state
pub record Agrees (states : List StoredState) (classes : ℕ) (next_state : NextState) : Type 0 where
  pub row : is_known next_state.kind ≡ true → next_state.row ≡ next_state.state * classes
  pub within : is_known next_state.kind ≡ true → next_state.state < length states
  pub kind : (match_flag : Option StoredStart) → known_match_flag next_state.kind ≡ Some match_flag
      → HasWays states next_state.state match_flag (is_restarting next_state.kind)
  pub ends : (match_flag : Option StoredStart) → last_match_flag next_state.kind ≡ Some match_flag
      → HasNoWays states next_state.state match_flag

abbrev pub AllAgree : List StoredState → (classes : ℕ) → List NextState → Type 0
AllAgree states classes next_states = All (Agrees states classes) next_states
