-- The lazy DFA that stored states, transitions and ways stand for, and what is known of each state.
use Rattle.regex_lite_meta.proofs.Common.{◌≡◌, ℕ, zero, suc, ◌+◌, ◌*◌, ◌<◌, ◌≤◌, List, [], ◌∷◌, map}
use Rattle.regex_lite_meta.proofs.Common.{Bool, length, take, drop, slice_get, slice_index}
use Rattle.regex_lite_meta.proofs.Common.{slice_index_or, Some, Option, sym, refl, ap, ◌∙◌, subst}
use Rattle.regex_lite_meta.proofs.Common.{arith, suc-mul, length-map, length-take-le}
use Rattle.regex_lite_meta.proofs.Common.{nil_from_length, get_or_from_slice_get, slice_get_within}
use Rattle.regex_lite_meta.proofs.Common.{Automaton, unknown, LeadsOn, IsDfaOf, Intervals, class_of}
use Rattle.regex_lite_meta.proofs.Common.{classes_in, number_of, way_in, match_flag_in, state_in}
use Rattle.regex_lite_meta.proofs.Common.{StoredState, StoredWay, NextState}
use Rattle.regex_lite_meta.specs.LazyDfa.Stored.{Agrees, AllAgree, HasKind, HasNoWays, HasWays}
use Rattle.regex_lite_meta.specs.LazyDfa.Stored.{LieWithin, is_restarting, number_if, states_in}
use Rattle.regex_lite_meta.specs.LazyDfa.NextStates.{IsNextStateOf, IsRowOf}
use Rattle.regex_lite_engine.specs.Graph.Places.{Place}
use Rattle.regex_lite_meta.specs.LazyDfa.Automaton.{State, StoredStart}
use Rattle.std.proofs.Common.{length-drop}
use Rattle.std.proofs.Math.Nat.{mul-div_cancel, mul-le-mul_right}
use Rattle.std.specs.Prelude.{◌/◌}
use Rattle.std.proofs.lemmas.List.{get_or-take, get_or-drop, get_or-map}
use Rattle.regex_lite_syntax.proofs.LookupLemmas.{there_is}
use Rattle.regex_lite_meta.proofs.lazy_dfa.ScanLemmas.{TransitionsTo}
use Rattle.regex_lite_syntax.proofs.OptionLemmas.{same_some}

-- the next states of a state, one for each class
abbrev pub row : (classes : ℕ) → List NextState → (y : ℕ) → List NextState
row classes next_states zero = take classes next_states
row classes next_states (suc y) = row classes (drop classes next_states) y

-- the row of a state lies among those of all
pub row_within : (n classes y : ℕ) → y < n → y * classes + classes ≤ n * classes
row_within n classes y lt =
    let next : suc y ≤ n = omega (arith, lt) in
    let fits = mul-le-mul_right classes next in
    let own = suc-mul y classes in omega (arith, fits, own)

pub row_length : (classes : ℕ) (next_states : List NextState) (y : ℕ)
    → y * classes + classes ≤ length next_states → length (row classes next_states y) ≡ classes
row_length classes next_states zero fits = length-take-le classes next_states (omega (arith, fits))
row_length classes next_states (suc y) fits =
    row_length classes (drop classes next_states) y
    (let n = length-drop classes next_states in
    let own = suc-mul y classes in omega (arith, n, own, fits))

pub row_index : (classes : ℕ) (next_states : List NextState) (y class : ℕ) (d : NextState) → class
    < classes → slice_index_or (row classes next_states y) class d
    ≡ slice_index_or next_states (y * classes + class) d
row_index classes next_states zero class d lt =
    get_or-take classes next_states class d lt
    ∙ ap (λ k. slice_index_or next_states k d) (omega arith)
row_index classes next_states (suc y) class d lt =
    row_index classes (drop classes next_states) y class d lt
    ∙ get_or-drop classes next_states (y * classes + class) d
    ∙ ap (λ k. slice_index_or next_states k d)
    (let own = suc-mul y classes in omega (arith, own))

-- the number of the state to which a transition leads
pub next_at : (classes : ℕ) (next_states : List NextState) (y class : ℕ) (d : NextState) → class
    < classes → y * classes + classes ≤ length next_states
    → slice_index (map number_of (row classes next_states y)) class
    ≡ number_of (slice_index_or next_states (y * classes + class) d)
next_at classes next_states y class d lt fits =
    get_or-map number_of (row classes next_states y) class d 0
    (let n = row_length classes next_states y fits in omega (arith, n, lt))
    ∙ ap number_of (row_index classes next_states y class d lt)

-- a state that stands in the list
pub state_at : (states : List StoredState) (ways : List StoredWay) (classes : ℕ)
    (next_states : List NextState) (y : ℕ) (d : StoredState)
    → y < length states →
    slice_get (states_in ways classes next_states states) y
    ≡ Some (state_in ways (row classes next_states y) (slice_index_or states y d))
state_at [] ways classes next_states y d lt = absurd (omega (arith, lt))
state_at (s ∷ states) ways classes next_states zero d lt = refl
state_at (s ∷ states) ways classes next_states (suc y) d lt =
    state_at states ways classes (drop classes next_states) y d (omega (arith, lt))

-- there are as many as are stored
pub length_states : (states : List StoredState) (ways : List StoredWay) (classes : ℕ)
    (next_states : List NextState)
    → length (states_in ways classes next_states states) ≡ length states
length_states [] ways classes next_states = refl
length_states (s ∷ states) ways classes next_states =
    ap suc (length_states states ways classes (drop classes next_states))

-- what the lazy DFA stands for that stores these
abbrev pub seen : Intervals → (reach : Option ℕ) → List StoredState → List NextState → (used : ℕ)
    → List StoredWay → Automaton
seen intervals reach states next_states used ways = record {
  intervals = intervals;
  reach = reach;
  states = states_in ways (classes_in intervals) next_states states;
  pending = map way_in (drop used ways);
}

module _ (states : List StoredState) (used : ℕ) (ways : List StoredWay) (classes : ℕ)
    (next_states : List NextState) where
  pub state_within : (x : ℕ) (state : State)
      → slice_get (states_in ways classes next_states states) x ≡ Some state → x < length states
  state_within x state at =
      let inside = slice_get_within (states_in ways classes next_states states) x state at in
      let n = length_states states ways classes next_states in omega (arith, inside, n)

  -- a state has as many ways as are stored
  pub ways_len : (x : ℕ) (d : StoredState) (state : State)
      → LieWithin used states → used ≤ length ways
      → slice_get (states_in ways classes next_states states) x ≡ Some state →
      length state.ways ≡ (slice_index_or states x d).len
  ways_len x d state within fits at =
      let inside = state_within x state at in
      let s = slice_index_or states x d in
      let same : state_in ways (row classes next_states x) s ≡ state =
      same_some (sym (state_at states ways classes next_states x d inside) ∙ at) in
      let own = within x d inside in
      ap (λ (z : State). length z.ways) (sym same)
      ∙ length-map (take s.len (drop s.from ways)) way_in
      ∙ length-take-le s.len (drop s.from ways)
      (let n = length-drop s.from ways in omega (arith, n, own, fits))

  -- there are none where none are stored, and only there
  pub empty_by_len : (x : ℕ) (d : StoredState) (state : State)
      → LieWithin used states → used ≤ length ways
      → slice_get (states_in ways classes next_states states) x ≡ Some state →
      (slice_index_or states x d).len ≡ 0 → state.ways ≡ []
  empty_by_len x d state within fits at none =
      nil_from_length state.ways (ways_len x d state within fits at ∙ none)

  pub len_by_empty : (x : ℕ) (d : StoredState) (state : State)
      → LieWithin used states → used ≤ length ways
      → slice_get (states_in ways classes next_states states) x ≡ Some state →
      state.ways ≡ [] → (slice_index_or states x d).len ≡ 0
  len_by_empty x d state within fits at none =
      sym (ways_len x d state within fits at) ∙ ap length none

  -- a state is as it is stored
  stored_there : (y : ℕ) (s : StoredState) → slice_get states y ≡ Some s → (to : State)
      → slice_get (states_in ways classes next_states states) y ≡ Some to →
      to ≡ state_in ways (row classes next_states y) s
  stored_there y s stored to at =
      same_some (sym at
      ∙ state_at states ways classes next_states y s (slice_get_within states y s stored))
      ∙ ap (state_in ways (row classes next_states y)) (get_or_from_slice_get states y s s stored)

  -- a stored state with ways is one with ways
  pub has_ways : LieWithin used states → used ≤ length ways → (y : ℕ)
      → (match_flag : Option StoredStart) → (restarts : Bool) → HasWays states y match_flag restarts
      → (to : State) → slice_get (states_in ways classes next_states states) y ≡ Some to →
      (to.ways ≡ [] → ⊥) × (to.match_flag ≡ match_flag) × (to.restarts ≡ restarts)
  has_ways within fits y match_flag restarts own_ways to at =
      let s = own_ways.state in
      let same = stored_there y s own_ways.is_state to at in
      let own : slice_index_or states y s ≡ s =
      get_or_from_slice_get states y s s own_ways.is_state in
      let some = own_ways.some in (
        λ none.
            let zero = len_by_empty y s to within fits at none in
            let len = ap (λ (z : StoredState). z.len) own in omega (arith, zero, len, some),
        ap (λ (z : State). z.match_flag) same ∙ own_ways.same,
        ap (λ (z : State). z.restarts) same ∙ own_ways.first,
      )

  -- and one without ways is one without
  pub has_no_ways : LieWithin used states → used ≤ length ways → (y : ℕ)
      → (match_flag : Option StoredStart) → HasNoWays states y match_flag → (to : State)
      → slice_get (states_in ways classes next_states states) y ≡ Some to →
      (to.ways ≡ []) × (to.match_flag ≡ match_flag)
  has_no_ways within fits y match_flag own_state to at =
      let s = own_state.state in
      let own : slice_index_or states y s ≡ s =
      get_or_from_slice_get states y s s own_state.is_state in (
        empty_by_len y s to within fits at
            (ap (λ (z : StoredState). z.len) own ∙ own_state.none),
        ap (λ (z : State). z.match_flag) (stored_there y s own_state.is_state to at)
            ∙ own_state.same,
      )

  -- what the kind of a transition says is so in its state
  pub has_kind : LieWithin used states → used ≤ length ways → (next_state : NextState)
      → Agrees states classes next_state → (to : State)
      → slice_get (states_in ways classes next_states states) next_state.state ≡ Some to →
      HasKind next_state.kind to
  has_kind within fits next_state own to at = record {
    goes = λ match_flag reported.
        has_ways within fits next_state.state match_flag (is_restarting next_state.kind)
        (own.kind match_flag reported) to at;
    ends = λ match_flag reported. has_no_ways within fits next_state.state match_flag
        (own.ends match_flag reported) to at;
  }

module _ (intervals : Intervals) (reach : Option ℕ) (states : List StoredState)
    (next_states : List NextState) (used : ℕ) (ways : List StoredWay) (automaton : Automaton)
    (view : seen intervals reach states next_states used ways ≡ automaton) where
  pub stored_within : (x : ℕ) → x < length automaton.states → x < length states
  stored_within x inside =
      let n = ap (λ (z : Automaton). length z.states) view in
      let m = length_states states ways (classes_in intervals) next_states in
      omega (arith, inside, n, m)

  -- what is stored at a number
  pub is_stored : (x : ℕ) (found : StoredState) → found ≡ slice_index_or states x found
      → x < length automaton.states →
      slice_get automaton.states x
      ≡ Some (state_in ways (row (classes_in intervals) next_states x) found)
  is_stored x found stored inside =
      sym (ap (λ (z : Automaton). slice_get z.states x) view)
      ∙ state_at states ways (classes_in intervals) next_states x found (stored_within x inside)
      ∙ ap (λ s. Some (state_in ways (row (classes_in intervals) next_states x) s)) (sym stored)

  -- the state whose row begins there
  pub state_of_row : (row x : ℕ) → IsRowOf automaton row x → (width : ℕ)
      → width ≡ classes_in intervals → row / width ≡ x
  state_of_row row x is width e =
      ap (λ n. row / n) e
      ∙ ap (λ n. n / classes_in intervals)
      (is.begins ∙ ap (λ (z : Automaton). x * classes_in z.intervals) (sym view))
      ∙ mul-div_cancel x (omega arith)

  -- a cached transition leads on
  module _ (table : List (Place ℕ)) (entries : List ℕ) (is_dfa : IsDfaOf table entries
      automaton) (x class y : ℕ) (inside : x < length automaton.states)
      (few : class < classes_in intervals)
      (known : (y ≡ unknown → ⊥) × ((state : State) → slice_get automaton.states x ≡ Some state
      → slice_index state.next class ≡ y)) where
    pub known_transition : (from to : State) × (slice_get automaton.states x ≡ Some from)
        × (slice_get automaton.states y ≡ Some to)
        × LeadsOn table entries automaton.intervals from class to
    known_transition =
        let from = there_is automaton.states x inside in
        let same = known.1 from.0 from.1 in
        let led = subst
        (λ z. (to : State) × (slice_get automaton.states z ≡ Some to)
        × LeadsOn table entries automaton.intervals from.0 class to)
        same (is_dfa.leads x from.0 class from.1
        (subst (λ (z : Automaton). class < classes_in z.intervals) view few)
        (λ e. known.0 (sym same ∙ e))) in
        (from.0, led.0, from.1, led.1, led.2)

    pub transition_stored : y < length states
    transition_stored =
        let transition = known_transition in
        stored_within y (slice_get_within automaton.states y transition.1 transition.3)

    pub transition_led : (after : Option ℕ) → class ≡ class_of intervals.boundaries after
        → (found : StoredState) → found ≡ slice_index_or states y found →
        TransitionsTo table entries automaton x after y (match_flag_in found.match_flag)
    transition_led after same found stored = let transition = known_transition in record {
      class = class;
      is_class = sym (same ∙ ap (λ (z : Automaton). class_of z.intervals.boundaries after) view);
      from = transition.0;
      is_from = transition.2;
      to = transition.1;
      is_to = transition.3;
      leads = transition.4;
      is_match_flag =
          ap (λ (s : State). s.match_flag) (same_some (sym transition.3
          ∙ is_stored y found stored
          (slice_get_within automaton.states y transition.1 transition.3)));
    }

  module _ (full : length next_states ≡ length states * classes_in intervals) (x class : ℕ)
      (inside : x < length automaton.states) (few : class < classes_in automaton.intervals) where
    same_classes : classes_in automaton.intervals ≡ classes_in intervals
    same_classes = ap (λ (z : Automaton). classes_in z.intervals) (sym view)

    own_few : class < classes_in intervals
    own_few = subst (λ n. class < n) same_classes few

    own_row : x * classes_in intervals + classes_in intervals ≤ length next_states
    own_row =
        let fits = row_within (length states) (classes_in intervals) x (stored_within x inside) in
        omega (arith, fits, full)

    pub cell_within : x * classes_in automaton.intervals + class < length next_states
    cell_within =
        subst (λ n. x * n + class < length next_states) (sym same_classes)
        (let fits = own_row in
        let lt = own_few in omega (arith, fits, lt))

    -- the next state of a state by a class is where the transition leads
    pub next_state_is : (cell : ℕ) → cell ≡ x * classes_in automaton.intervals + class
        → (next_state : NextState) → next_state ≡ slice_index_or next_states cell next_state
        → (state : State) → slice_get automaton.states x ≡ Some state → slice_index state.next class
        ≡ number_of next_state
    next_state_is cell e next_state stored state at =
        let own = stored_within x inside in
        let s = there_is states x own in
        let same = same_some (sym at ∙ sym (ap (λ (z : Automaton). slice_get z.states x) view)
        ∙ state_at states ways (classes_in intervals) next_states x s.0 own) in
        ap (λ (z : State). slice_index z.next class) same
        ∙ next_at (classes_in intervals) next_states x class next_state own_few own_row
        ∙ ap (λ n. number_of (slice_index_or next_states (x * n + class) next_state))
        (sym same_classes) ∙ ap (λ k. number_of (slice_index_or next_states k next_state)) (sym e)
        ∙ ap number_of (sym stored)

    -- the transition is that of the state by the class
    pub next_state_of : LieWithin used states → used ≤ length ways → length states ≤ 256
        → AllAgree states (classes_in intervals) next_states
        → (cell : ℕ) → cell ≡ x * classes_in automaton.intervals + class → (next_state : NextState)
        → next_state ≡ slice_index_or next_states cell next_state → IsNextStateOf automaton x class
        next_state
    next_state_of within fits few_states agree cell e next_state stored =
        let lt : cell < length next_states = subst (λ k. k < length next_states) (sym e)
        cell_within in
        let own : Agrees states (classes_in intervals) next_state =
        subst (Agrees states (classes_in intervals)) (sym stored) (agree cell next_state lt) in
        record {
          number = next_state_is cell e next_state stored;
          known = λ reported none.
              let inside = own.within reported in
              let same = sym (ap (λ known. number_if known next_state.state) reported) ∙ none in
              omega (arith, inside, few_states, same);
          row = λ reported. record {
            begins = own.row reported ∙ ap (λ n. next_state.state * n) (sym same_classes);
            within =
                let inside = own.within reported in
                let n = ap (λ (z : Automaton). length z.states) view in
                let m = length_states states ways (classes_in intervals) next_states in
                omega (arith, inside, n, m);
          };
          kind = λ _ to at.
              has_kind states used ways (classes_in intervals) next_states within fits next_state
              own to (ap (λ (z : Automaton). slice_get z.states next_state.state) view ∙ at);
        }
