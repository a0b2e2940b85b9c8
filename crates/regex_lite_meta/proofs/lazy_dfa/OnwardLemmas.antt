-- A search that follows cached transitions, from where it stands to where it stands then.
use Rattle.regex_lite_meta.proofs.Common.{◌≡◌, ℕ, ◌+◌, ◌^◌, ◌<◌, ◌≤◌, List, [], length}
use Rattle.regex_lite_meta.proofs.Common.{slice_get, Some, None, IsUtf8, Option, chars}
use Rattle.regex_lite_meta.proofs.Common.{IsCharBoundary, sym, refl, ap, ◌∙◌, subst, inl, ◌⊎◌}
use Rattle.regex_lite_meta.proofs.Common.{arith, slice_get_within, Text, IsBestOutcomeOf}
use Rattle.regex_lite_meta.proofs.Common.{Bool, IsFoundOf, true, ◌*◌, classes_in}
use Rattle.regex_lite_meta.proofs.Common.{IsHere, Here, MatchStart, Automaton, best_reported}
use Rattle.regex_lite_meta.proofs.Common.{IsSince, IsScanning, DfaPosition}
use Rattle.regex_lite_engine.specs.Graph.Places.{Place}
use Rattle.regex_lite_meta.specs.LazyDfa.Automaton.{State, first_left}
use Rattle.regex_lite_meta.specs.LazyDfa.Scanning.{GoesOn, LedTo}
use Rattle.regex_lite_meta.specs.LazyDfa.Stored.{HasKind}
use Rattle.regex_lite_meta.specs.declared.lazy_dfa.cursor.DfaCursor.{DfaCursor}
use Rattle.regex_lite_meta.specs.declared.lazy_dfa.state.NextState.{NextState}
use Rattle.regex_lite_meta.specs.LazyDfa.Cursors.{EndsScan, IsCursorAt, IsTaken, IsTransition}
use Rattle.regex_lite_meta.specs.LazyDfa.Cursors.{Stays}
use Rattle.regex_lite_meta.specs.LazyDfa.NextStates.{IsRowOf}
use Rattle.std.proofs.lemmas.Str.{len_utf8_bounds}
use Rattle.regex_lite_syntax.proofs.OptionLemmas.{same_some}
use Rattle.regex_lite_meta.proofs.lazy_dfa.ScanLemmas.{first_and_start_state, scanned_on}
use Rattle.regex_lite_meta.proofs.lazy_dfa.HereLemmas.{edge_there}
use Rattle.regex_lite_meta.proofs.lazy_dfa.CursorLemmas.{cursor_completed, cursor_kept, cursor_of}
use Rattle.regex_lite_meta.proofs.lazy_dfa.CursorLemmas.{cursor_on, cursor_over, cursor_since}
use Rattle.regex_lite_meta.proofs.lazy_dfa.CursorLemmas.{since_led, since_on}

-- the same by offsets alone
abbrev pub GoesToCursor : List (Place ℕ) → List ℕ → Text → Automaton → (from : DfaPosition)
    → DfaCursor → (reported : DfaPosition) → Type 0
GoesToCursor table entries h automaton from cursor reported = (low p : ℕ)
    → IsScanning table entries h low p automaton from
    → (q : ℕ) × (p ≤ q) × IsCursorAt table entries h low q automaton cursor reported
    × IsSince table entries h low p from.start_state_at reported.start_state_at

module _ {table : List (Place ℕ)} {entries : List ℕ} {h : Text} {automaton : Automaton} where
  pub stays_there : (at : DfaPosition) → GoesOn table entries h automaton at at
  stays_there at low p scanning = (p, omega arith, scanning, inl refl)

  pub then_on : {a b c : DfaPosition} → GoesOn table entries h automaton a b
      → GoesOn table entries h automaton b c → GoesOn table entries h automaton a c
  then_on {a} {b} {c} there on low p scanning =
      let v = there low p scanning in
      let r = on low v.0 v.2 in
      let le = v.1 in
      let more = r.1 in (
        r.0,
        omega (arith, le, more),
        r.2,
        since_on table entries h low p v.0 a.start_state_at b.start_state_at c.start_state_at le v.3
            r.3,
      )

  -- the transition from there is taken
  pub then_stepped : {a b next : DfaPosition} {to : ℕ} {best : Option (MatchStart × ℕ)}
      → GoesOn table entries h automaton a b
      → ((low p : ℕ) → IsScanning table entries h low p automaton b
      → LedTo table entries h low p automaton b to best)
      → ((state : State) → slice_get automaton.states to ≡ Some state → state.ways ≡ []
      → best ≡ None)
      → ((low p : ℕ) → IsScanning table entries h low p automaton b
      → (on : Here) × IsHere h (p + 1) on × (on.at ≡ next.at))
      → next ≡ record next { state = to; best = best }
      → ((state : State) → slice_get automaton.states to ≡ Some state
      → ((state.ways ≡ []) × (next.first ≡ next.at) × (next.start_state_at ≡ next.at))
      ⊎ ((state.ways ≡ [] → ⊥) × (next.first ≡ first_left state.restarts b.first b.at)
      × (next.start_state_at ≡ b.start_state_at)))
      → GoesOn table entries h automaton a next
  then_stepped {b = b} {next = next} {to = to} {best = best} there led none here same first =
      then_on there (λ low p scanning.
      let state = led low p scanning in
      let on = here low p scanning in
      let reported = first_and_start_state state.state b.at next.at b.first next.first
      b.start_state_at next.start_state_at (first state.state state.is_state) in (
        p + 1,
        omega arith,
        subst (IsScanning table entries h low (p + 1) automaton) (sym same)
            (scanned_on table entries h low p automaton b scanning to best state on.0 next.at
            next.first next.start_state_at on.1 on.2 reported.0),
        since_led table entries h low p automaton b to best state next.at next.start_state_at
            (on.1.inside, sym on.2 ∙ on.1.bytes) (none state.state state.is_state) reported.1,
      ))

  -- the state there is one of the lazy DFA
  pub state_there : {from at : DfaPosition} → GoesOn table entries h automaton from at
      → (low p : ℕ) × IsScanning table entries h low p automaton from →
      at.state < length automaton.states
  state_there {at = at} there from =
      let is = (there from.0 from.1 from.2).2 in
      slice_get_within automaton.states at.state is.state is.is_state

  -- a search goes by offsets from where it stands
  pub to_cursor : {cursor : DfaCursor} (at : DfaPosition) → cursor.at ≡ at.at
      → cursor.row ≡ at.state * classes_in automaton.intervals
      → GoesToCursor table entries h automaton at cursor at
  to_cursor {cursor} at e row low p scanning = (
    p,
    omega arith,
    cursor_of table entries h low p automaton at cursor scanning e row,
    inl refl,
  )

  -- what is read there says nothing of it
  pub kept_at_cursor : {from : DfaPosition} {cursor : DfaCursor} {reported after : DfaPosition}
      → GoesToCursor table entries h automaton from cursor reported
      → Stays reported after → GoesToCursor table entries h automaton from cursor after
  kept_at_cursor {from} {cursor} {reported} {after} there same low p scanning =
      let v = there low p scanning in (
        v.0,
        v.1,
        cursor_kept table entries h low v.0 automaton cursor reported after same v.2,
        subst (IsSince table entries h low p from.start_state_at)
            (sym (ap (λ (s : DfaPosition). s.start_state_at) same)) v.3,
      )

  -- some transitions are passed, which change no more than that
  pub passed_to_cursor : {from : DfaPosition} {cursor on : DfaCursor} {reported : DfaPosition}
      → GoesToCursor table entries h automaton from cursor reported
      → ((low p : ℕ) → IsCursorAt table entries h low p automaton cursor reported → (q : ℕ)
      × (p ≤ q) × IsCursorAt table entries h low q automaton on reported)
      → GoesToCursor table entries h automaton from on reported
  passed_to_cursor there passed low p scanning =
      let v = there low p scanning in
      let w = passed low v.0 v.2 in
      let le = v.1 in
      let more = w.1 in (w.0, omega (arith, le, more), w.2, v.3)

  pub scans_at_cursor : {from : DfaPosition} {cursor : DfaCursor} {reported : DfaPosition}
      → GoesToCursor table entries h automaton from cursor reported
      → (low p : ℕ) × IsScanning table entries h low p automaton from →
      (low p : ℕ) × IsCursorAt table entries h low p automaton cursor reported
  scans_at_cursor there (low, p, scanning) =
      let v = there low p scanning in (low, v.0, v.2)

  pub row_at_cursor : {from : DfaPosition} {cursor : DfaCursor} {reported : DfaPosition}
      → GoesToCursor table entries h automaton from cursor reported
      → (low p : ℕ) × IsScanning table entries h low p automaton from →
      (x : ℕ) × IsRowOf automaton cursor.row x
  row_at_cursor there from = let is = (there from.0 from.1 from.2).2 in (is.x, is.row)

  -- the scan moves to the cursor
  pub from_cursor : {from : DfaPosition} {cursor : DfaCursor} {reported : DfaPosition}
      → GoesToCursor table entries h automaton from cursor reported → (at : DfaPosition)
      → ((x : ℕ) → IsRowOf automaton cursor.row x → at ≡ record
      reported { at = cursor.at; state = x }) → GoesOn table entries h automaton from at
  from_cursor {from} there at same low p scanning =
      let v = there low p scanning in
      let e = same v.2.x v.2.row in (
        v.0,
        v.1,
        subst (IsScanning table entries h low v.0 automaton) (sym e) v.2.scanning,
        subst (IsSince table entries h low p from.start_state_at)
            (sym (ap (λ (s : DfaPosition). s.start_state_at) e)) v.3,
      )

-- to move there changes no match
pub none_settled : {automaton : Automaton} {row there : ℕ} (reported at : DfaPosition)
    → ((x : ℕ) → IsRowOf automaton row x → at ≡ record reported { at = there; state = x })
    → (x : ℕ) × IsRowOf automaton row x → reported.best ≡ None → at.best ≡ None
none_settled reported at same (x, is) none = ap (λ (s : DfaPosition). s.best) (same x is) ∙ none

-- the state to which a transition leads
module _ {table : List (Place ℕ)} {entries : List ℕ} {automaton : Automaton} {bs : List ℕ}
    {at x end : ℕ} {next_state : NextState}
    (leads : IsTransition table entries automaton bs at x next_state end)
  where
    pub transition_within : next_state.state < length automaton.states
    transition_within = slice_get_within automaton.states next_state.state leads.to leads.is_to

    -- it leads on by one byte at least
    pub transition_later : at < end
    transition_later =
        let ends = leads.ahead.ends in
        let some = (len_utf8_bounds leads.ahead.character).0 in omega (arith, ends, some)

    pub transition_kind : (state : State) → slice_get automaton.states next_state.state ≡ Some state
        → HasKind next_state.kind state
    transition_kind state is =
        subst (HasKind next_state.kind) (same_some (sym leads.is_to ∙ is)) leads.kind

module _ {table : List (Place ℕ)} {entries : List ℕ} {automaton : Automaton} (bs : List ℕ)
    (u : IsUtf8 bs) (fits : length bs + 1 < 2 ^ 64) where
  module _ {from : DfaPosition} {cursor : DfaCursor} {reported : DfaPosition}
      (there : GoesToCursor table entries (chars bs) automaton from cursor reported) where
    pub cursor_boundary : (low p : ℕ) × IsScanning table entries (chars bs) low p automaton from
        → IsCharBoundary bs cursor.at
    cursor_boundary (low, p, scanning) =
        edge_there bs u (there low p scanning).2.scanning

    module _ {next_state : NextState} {end : ℕ} (leads : (x : ℕ) → IsRowOf automaton cursor.row x
        → IsTransition table entries automaton bs cursor.at x next_state end) where
      -- the transition is taken
      pub next_cursor : (on : DfaCursor) (after : DfaPosition)
          → ((state : State) → slice_get automaton.states next_state.state ≡ Some state
          → IsTaken cursor.at next_state.row end state reported after on)
          → GoesToCursor table entries (chars bs) automaton from on after
      next_cursor on after taken low p scanning =
          let v = there low p scanning in
          let le = v.1 in
          let transition = leads v.2.x v.2.row in
          let own = taken transition.to transition.is_to in (
            v.0 + 1,
            omega (arith, le),
            cursor_on table entries bs u fits low v.0 automaton cursor reported v.2 next_state end
                transition after on
                own,
            since_on table entries (chars bs) low p v.0 from.start_state_at reported.start_state_at
                after.start_state_at le
                v.3
                (cursor_since table entries bs u fits low v.0 automaton cursor reported v.2
                next_state end transition after on own),
          )

      -- the transition completes a match where the least end is asked for
      pub completes_there : {earliest : Bool} → earliest ≡ true → reported.best ≡ None
          → ((state : State) → slice_get automaton.states next_state.state ≡ Some state
          → state.match_flag ≡ None → ⊥) → (match_start : MatchStart) → (after : DfaPosition)
          → after ≡ record reported { best = Some (match_start, cursor.at) } → (low p : ℕ)
          → IsScanning table entries (chars bs) low p automaton from →
          IsFoundOf earliest table (chars bs) entries low (best_reported after.best)
      completes_there {earliest} is none some match_start after same low p scanning =
          let v = there low p scanning in
          let transition = leads v.2.x v.2.row in
          rw (is, same)
          (cursor_completed table entries bs u fits low v.0 automaton cursor reported v.2 next_state
          end transition none (some transition.to transition.is_to) match_start)

      -- the transition leads from a match to nothing
      pub ends_there : (after : DfaPosition)
          → ((state : State) → slice_get automaton.states next_state.state ≡ Some state
          → EndsScan cursor.at state reported after) → (low p : ℕ)
          → IsScanning table entries (chars bs) low p automaton from →
          IsBestOutcomeOf table (chars bs) entries low (best_reported after.best)
      ends_there after over low p scanning =
          let v = there low p scanning in
          let transition = leads v.2.x v.2.row in
          cursor_over table entries bs u fits low v.0 automaton cursor reported v.2 next_state end
          transition after (over transition.to transition.is_to)
