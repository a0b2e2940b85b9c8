-- A scan by offsets, without the characters next to them.
use Rattle.std.specs.Prelude.{◌≡◌, ◌⊎◌, ℕ, true, List, [], Option, None, Some, slice_get}
use Rattle.regex_lite_syntax.specs.Text.{Text}
use Rattle.regex_lite_meta.specs.declared.lazy_dfa.scan.DfaPosition.{DfaPosition}
use Rattle.regex_lite_meta.specs.declared.lazy_dfa.cursor.DfaCursor.{DfaCursor}
use Rattle.regex_lite_meta.specs.declared.lazy_dfa.state.NextState.{NextState}
use Rattle.regex_lite_engine.specs.Graph.Places.{Place}
use Rattle.regex_lite_meta.specs.LazyDfa.Automaton.{Automaton, LeadsOn, State}
use Rattle.regex_lite_meta.specs.LazyDfa.Automaton.{best_left, first_left}
use Rattle.regex_lite_meta.specs.LazyDfa.Intervals.{IsAhead}
use Rattle.regex_lite_meta.specs.LazyDfa.Scanning.{IsScanning, best_reported}
use Rattle.regex_lite_meta.specs.LazyDfa.Stored.{HasKind, is_known}
use Rattle.regex_lite_meta.specs.LazyDfa.NextStates.{IsRowOf}

-- a scan for a search from position low on has this cursor, at position p, with this first start
-- and last match
pub record IsCursorAt (table : List (Place ℕ)) (entries : List ℕ) (haystack : Text) (low p : ℕ)
    (automaton : Automaton) (cursor : DfaCursor) (reported : DfaPosition) : Type 0 where
  pub x : ℕ
  pub row : IsRowOf automaton cursor.row x
  pub scanning : IsScanning table entries haystack low p automaton (record {
    at = cursor.at;
    state = x;
    first = reported.first;
    start_state_at = reported.start_state_at;
    best = reported.best;
  })

-- wherever a search in state x is before a character of the class of the one at this offset, its
-- transition leads to this next state, and here to the end of that character
pub record IsTransition (table : List (Place ℕ)) (entries : List ℕ) (automaton : Automaton)
    (bytes : List ℕ) (at x : ℕ) (next_state : NextState) (end : ℕ) : Type 0 where
  pub class : ℕ
  pub ahead : IsAhead automaton.intervals.boundaries bytes at class end
  pub from : State
  pub is_from : slice_get automaton.states x ≡ Some from
  pub to : State
  pub is_to : slice_get automaton.states next_state.state ≡ Some to
  pub row : IsRowOf automaton next_state.row next_state.state
  pub leads : LeadsOn table entries automaton.intervals from class to
  pub kind : HasKind next_state.kind to

-- if the transition from the state with this row is cached, it leads to this next state
abbrev pub LeadsIfKnown : List (Place ℕ) → List ℕ → Automaton → (bytes : List ℕ) → (at row : ℕ)
    → NextState → (end : ℕ) → Type 0
LeadsIfKnown table entries automaton bytes at row next_state end =
    is_known next_state.kind ≡ true → (x : ℕ) → IsRowOf automaton row x
    → IsTransition table entries automaton bytes at x next_state end

-- after the transition at this offset to the state with this row the search is at the end of the
-- character, and isn't over
pub record IsTaken (at row end : ℕ) (state : State) (before after : DfaPosition) (on : DfaCursor)
    : Type 0 where
  pub ends : on.at ≡ end
  pub is_to : on.row ≡ row
  pub best : best_reported after.best ≡ best_left state.match_flag before.first at
      (best_reported before.best)
  pub first : ((state.ways ≡ []) × (after.first ≡ on.at) × (after.start_state_at ≡ on.at)
      × (after.best ≡ None))
      ⊎ ((state.ways ≡ [] → ⊥) × (after.first ≡ first_left state.restarts before.first at)
      × (after.start_state_at ≡ before.start_state_at))

-- after the transition to this state no thread is left, and the last match is the answer
pub record EndsScan (at : ℕ) (state : State) (before after : DfaPosition) : Type 0 where
  pub none : state.ways ≡ []
  pub best : best_reported after.best ≡ best_left state.match_flag before.first at
      (best_reported before.best)
  pub some : best_reported after.best ≡ None → ⊥
  pub same : after ≡ record before { at = after.at; best = after.best }

-- nothing is changed but the scan's position, which its cursor has
abbrev pub Stays : (before after : DfaPosition) → Type 0
Stays before after = after ≡ record before { at = after.at }

-- the outcome of the transition at this offset to this state, if it is taken
abbrev pub Takes : (at row end : ℕ) → State → (before after : DfaPosition) → Option
    (Option DfaCursor) → Type 0
Takes at row end state before after (Some (Some on)) = IsTaken at row end state before after on
Takes at row end state before after (Some None) = EndsScan at state before after
Takes at row end state before after None = Stays before after

-- the outcome of a transition to the start state, with this cursor
abbrev pub TakesToNothing : (there : DfaCursor) → (before after : DfaPosition) → Option
    (Option DfaCursor) → Type 0
TakesToNothing there before after (Some (Some on)) =
    (on.at ≡ there.at) × (on.row ≡ there.row) × (before.best ≡ None)
    × (after ≡ record before { first = there.at; start_state_at = there.at })
TakesToNothing there before after (Some None) = (after ≡ before) × (before.best ≡ None → ⊥)
TakesToNothing there before after None = (after ≡ before) × (before.best ≡ None)
