-- The transitions that the rows of a lazy DFA stand for.
use Rattle.regex_lite_meta.proofs.Common.{◌≡◌, ℕ, ◌+◌, ◌<◌, List, length, true, Some, slice_get}
use Rattle.regex_lite_meta.proofs.Common.{slice_index, slice_index_or, sym, ap, ◌∙◌, subst, IsUtf8}
use Rattle.regex_lite_meta.proofs.Common.{IsCharBoundary, get_or_from_slice_get, interval_of}
use Rattle.regex_lite_meta.proofs.Common.{slice_get_within}
use Rattle.regex_lite_meta.proofs.Common.{Automaton, LeadsOn, IsDfaOf, NextState, classes_in}
use Rattle.regex_lite_meta.specs.LazyDfa.Automaton.{State}
use Rattle.regex_lite_meta.specs.LazyDfa.Intervals.{IsAhead}
use Rattle.regex_lite_meta.specs.LazyDfa.Cursors.{IsTransition, LeadsIfKnown}
use Rattle.regex_lite_meta.specs.LazyDfa.Stored.{is_known, number_if}
use Rattle.regex_lite_meta.specs.LazyDfa.NextStates.{AreNextStates, IsNextStateOf, IsRowOf}
use Rattle.regex_lite_engine.specs.Graph.Places.{Place}
use Rattle.std.proofs.lemmas.Str.{len_utf8_ascii}
use Rattle.regex_lite_syntax.proofs.LookupLemmas.{there_is}
use Rattle.regex_lite_meta.proofs.lazy_dfa.AheadLemmas.{ascii_begins}

-- a cached transition leads to its next state
pub transition_of : (table : List (Place ℕ)) (entries : List ℕ) (automaton : Automaton)
    → IsDfaOf table entries automaton → (bytes : List ℕ) (at x class end : ℕ)
    → x < length automaton.states → class < classes_in automaton.intervals
    → (next_state : NextState) → IsNextStateOf automaton x class next_state → is_known
    next_state.kind ≡ true → IsAhead automaton.intervals.boundaries bytes at class end →
    IsTransition table entries automaton bytes at x next_state end
transition_of table entries automaton is_dfa bytes at x class end inside few next_state is known
    ahead =
    let from = there_is automaton.states x inside in
    let number = is.number from.0 from.1 in
    let led = subst
    (λ y. (to : State) × (slice_get automaton.states y ≡ Some to)
    × LeadsOn table entries automaton.intervals from.0 class to)
    (number ∙ ap (λ k. number_if k next_state.state) known)
    (is_dfa.leads x from.0 class from.1 few (λ e. is.known known (sym number ∙ e))) in
    record {
      class = class;
      ahead = ahead;
      from = from.0;
      is_from = from.1;
      to = led.0;
      is_to = led.1;
      row = is.row known;
      leads = led.2;
      kind = is.kind known led.0 led.1;
    }

-- where the transition by an ASCII character leads, if it is cached
pub ascii_transition : (table : List (Place ℕ)) (entries : List ℕ) (automaton : Automaton)
    → IsDfaOf table entries automaton → (bs : List ℕ) (at row class : ℕ) → IsUtf8 bs
    → IsCharBoundary bs at → at < length bs → slice_index bs at < 128
    → interval_of automaton.intervals.boundaries (slice_index bs at) ≡ class
    → class < classes_in automaton.intervals → (next_state : NextState)
    → ((x : ℕ) → IsRowOf automaton row x → IsNextStateOf automaton x class next_state) →
    LeadsIfKnown table entries automaton bs at row next_state (at + 1)
ascii_transition table entries automaton is_dfa bs at row class u edge inside ascii same few
    next_state is known x there =
    transition_of table entries automaton is_dfa bs at x class (at + 1) there.within few next_state
    (is x there) known (record {
      inside = inside;
      character = slice_index bs at;
      begins = ascii_begins bs at u edge inside ascii;
      ends = ap (λ z. at + z) (sym (len_utf8_ascii (slice_index bs at) ascii));
      is_class = same;
    })

-- the next state for a class in the row of a state
module _ (automaton : Automaton) (next_states : List NextState)
    (all : AreNextStates automaton next_states) (row class x : ℕ) (is : IsRowOf automaton row x)
    (few : class < classes_in automaton.intervals)
  where
    pub next_state_within : row + class < length next_states
    next_state_within =
        let there = all row class x is few in
        slice_get_within next_states (row + class) there.0 there.1

    pub next_state_there : (d : NextState) →
        IsNextStateOf automaton x class (slice_index_or next_states (row + class) d)
    next_state_there d =
        let there = all row class x is few in
        subst (IsNextStateOf automaton x class)
        (sym (get_or_from_slice_get next_states (row + class) there.0 d there.1)) there.2
