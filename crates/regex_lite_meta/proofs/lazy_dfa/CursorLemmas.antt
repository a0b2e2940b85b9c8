-- A search that follows cached transitions, by offsets alone.
use Rattle.regex_lite_meta.proofs.Common.{◌≡◌, ℕ, suc, ◌+◌, ◌^◌, ◌<◌, ◌≤◌, ◌⊎◌, List, [], length}
use Rattle.regex_lite_meta.proofs.Common.{drop, slice_get, Some, None, IsUtf8, Option, chars}
use Rattle.regex_lite_meta.proofs.Common.{sym, refl, ap, ◌∙◌, subst, inl, inr}
use Rattle.regex_lite_meta.proofs.Common.{arith, len_utf8, Text, IsComing, IsBestOutcomeOf}
use Rattle.regex_lite_meta.proofs.Common.{IsNumberedEndOf, true, true≢false}
use Rattle.regex_lite_meta.proofs.Common.{IsOffset, IsHere, MatchStart, Here, Automaton}
use Rattle.regex_lite_meta.proofs.Common.{threads_of, best_left, class_of, classes_in}
use Rattle.regex_lite_meta.proofs.Common.{best_reported, slice_get_within, ◌*◌, IsStartStateAt}
use Rattle.regex_lite_meta.proofs.Common.{IsSince, IsScanning, DfaPosition}
use Rattle.regex_lite_engine.specs.Graph.Places.{Place}
use Rattle.regex_lite_meta.specs.LazyDfa.Automaton.{State, StoredStart, first_left}
use Rattle.regex_lite_meta.specs.LazyDfa.Scanning.{LedTo}
use Rattle.regex_lite_meta.specs.declared.lazy_dfa.cursor.DfaCursor.{DfaCursor}
use Rattle.regex_lite_meta.specs.declared.lazy_dfa.state.NextState.{NextState}
use Rattle.regex_lite_meta.specs.LazyDfa.Cursors.{EndsScan, IsCursorAt, IsTaken, IsTransition}
use Rattle.regex_lite_meta.specs.LazyDfa.Cursors.{Stays}
use Rattle.regex_lite_meta.specs.LazyDfa.NextStates.{IsRowOf}
use Rattle.regex_lite_engine.proofs.PositionLemmas.{after_at}
use Rattle.regex_lite_meta.proofs.lazy_dfa.ScanLemmas.{IsFirstAfter, IsStartStateAfter}
use Rattle.regex_lite_meta.proofs.lazy_dfa.ScanLemmas.{TransitionsTo, completed}
use Rattle.regex_lite_meta.proofs.lazy_dfa.ScanLemmas.{first_and_start_state, led_step, scan_over}
use Rattle.regex_lite_meta.proofs.lazy_dfa.ScanLemmas.{scanned_on}
use Rattle.regex_lite_syntax.proofs.OptionLemmas.{same_some}
use Rattle.regex_lite_engine.proofs.OffsetLemmas.{boundary_at}
use Rattle.regex_lite_engine.proofs.search.here.HereLemmas.{here_next, moved}

module _ (table : List (Place ℕ)) (entries : List ℕ) (h : Text) (low : ℕ) where
  pub since_on : (p q a b c : ℕ) → p ≤ q → IsSince table entries h low p a b
      → IsSince table entries h low q b c → IsSince table entries h low p a c
  since_on p q a b c le (inl e) (inl f) = inl (f ∙ e)
  since_on p q a b c le (inr in_start) (inl f) =
      inr (subst (IsStartStateAt table entries h low p) (sym f) in_start)
  since_on p q a b c le before (inr in_start) = let later = in_start.later in inr (record {
    r = in_start.r;
    later = omega (arith, le, later);
    is = in_start.is;
    coming = in_start.coming;
  })

  -- a search goes by offsets from where it stands
  pub cursor_of : (p : ℕ) (automaton : Automaton) (at : DfaPosition) (cursor : DfaCursor)
      → IsScanning table entries h low p automaton at → cursor.at ≡ at.at
      → cursor.row ≡ at.state * classes_in automaton.intervals
      → IsCursorAt table entries h low p automaton cursor at
  cursor_of p automaton at cursor scanning e begins = record {
    x = at.state;
    row = record {
      begins = begins;
      within =
          slice_get_within automaton.states at.state scanning.state scanning.is_state;
    };
    scanning =
        subst (λ z. IsScanning table entries h low p automaton (record at { at = z })) (sym e)
        scanning;
  }

  -- what is read there says nothing of it
  pub cursor_kept : (p : ℕ) (automaton : Automaton) (cursor : DfaCursor)
      (reported after : DfaPosition) → Stays reported after → IsCursorAt table entries h low p
      automaton cursor reported → IsCursorAt table entries h low p automaton cursor after
  cursor_kept p automaton cursor reported after same is =
      subst (IsCursorAt table entries h low p automaton cursor) (sym same)
      (record { x = is.x; row = is.row; scanning = is.scanning })

  -- after a transition
  pub since_led : (q : ℕ) (automaton : Automaton) (at : DfaPosition) (to : ℕ)
      (best : Option (MatchStart × ℕ)) → (led : LedTo table entries h low q automaton at to best)
      → (end in_start : ℕ) → IsOffset h (q + 1) end → (led.state.ways ≡ [] → best ≡ None)
      → IsStartStateAfter led.state end at.start_state_at in_start
      → IsSince table entries h low q at.start_state_at in_start
  since_led q automaton at to best led end in_start is over (inr e) = inl e
  since_led q automaton at to best led end in_start is over (inl (none, e)) = inr (record {
    r = q + 1;
    later = omega arith;
    is = subst (IsOffset h (q + 1)) (sym e) is;
    coming = subst (λ b. IsComing table h entries low (length h) (q + 1) [] (best_reported b))
        (over none)
        (subst (λ ways. IsComing table h entries low (length h) (q + 1)
        (threads_of (first_left led.state.restarts at.first at.at) ways) (best_reported best))
        none led.coming);
  })

module _ (table : List (Place ℕ)) (entries : List ℕ) (bs : List ℕ) (u : IsUtf8 bs)
    (fits : length bs + 1 < 2 ^ 64) (low : ℕ) where
  module _ (p : ℕ) (automaton : Automaton) (cursor : DfaCursor) (reported : DfaPosition)
      (is : IsCursorAt table entries (chars bs) low p automaton cursor reported) where
    own_offset : IsOffset (chars bs) p cursor.at
    own_offset = let own = is.scanning in (own.is.inside, sym own.there ∙ own.is.bytes)

    abbrev here : Here
    here = is.scanning.here

    module _ (next_state : NextState) (end : ℕ)
        (leads : IsTransition table entries automaton bs cursor.at is.x next_state end) where
      abbrev next_character : ℕ
      next_character = leads.ahead.character

      abbrev from : DfaPosition
      from = record {
        at = cursor.at;
        state = is.x;
        first = reported.first;
        start_state_at = reported.start_state_at;
        best = reported.best;
      }

      next_is_there : slice_get (chars bs) p ≡ Some next_character
      next_is_there = sym (after_at bs p cursor.at u own_offset) ∙ leads.ahead.begins

      after_is : here.after ≡ Some next_character
      after_is = is.scanning.is.ahead ∙ next_is_there

      -- the transition ends inside the haystack
      end_inside : end ≤ length bs
      end_inside =
          let edge = boundary_at bs (suc p) (here.at + len_utf8 next_character) u
          (moved bs p next_character here is.scanning.is after_is) in
          subst (λ z. z ≤ length bs)
          (ap (λ z. z + len_utf8 next_character) is.scanning.there ∙ sym leads.ahead.ends) edge.0

      transitions : TransitionsTo table entries automaton is.x (slice_get (chars bs) p)
          next_state.state leads.to.match_flag
      transitions = record {
        class = leads.class;
        is_class =
            ap (class_of automaton.intervals.boundaries) next_is_there ∙ leads.ahead.is_class;
        from = leads.from;
        is_from = leads.is_from;
        to = leads.to;
        is_to = leads.is_to;
        leads = leads.leads;
        is_match_flag = refl;
      }

      led_with : (best : Option (MatchStart × ℕ))
          → best_reported best ≡ best_left leads.to.match_flag reported.first cursor.at
          (best_reported reported.best) → LedTo table entries (chars bs) low p automaton from
          next_state.state best
      led_with best left =
          led_step table entries (chars bs) low p automaton from is.scanning transitions best left

      module _ (after : DfaPosition) (on : DfaCursor)
          (taken : IsTaken cursor.at next_state.row end leads.to reported after on) where
        led : LedTo table entries (chars bs) low p automaton from next_state.state after.best
        led = led_with after.best taken.best

        abbrev next : Here
        next = record {
          before = Some next_character;
          after = slice_get (chars (drop on.at bs)) 0;
          at = on.at;
          small = let at = taken.ends in let inside = end_inside in omega (arith, at, inside, fits);
        }

        next_is : IsHere (chars bs) (p + 1) next
        next_is =
            here_next bs p next_character here next u after_is refl
            (taken.ends ∙ leads.ahead.ends
            ∙ ap (λ z. z + len_utf8 next_character) (sym is.scanning.there)) refl is.scanning.is

        same : leads.to ≡ led.state
        same = same_some (sym leads.is_to ∙ led.is_state)

        -- both, without the match
        reported_firsts : ((leads.to.ways ≡ []) × (after.first ≡ on.at)
            × (after.start_state_at ≡ on.at)) ⊎ ((leads.to.ways ≡ [] → ⊥)
            × (after.first ≡ first_left leads.to.restarts reported.first cursor.at)
            × (after.start_state_at ≡ reported.start_state_at))
        reported_firsts = by_ways taken.first
          where
            by_ways : ((leads.to.ways ≡ []) × (after.first ≡ on.at) × (after.start_state_at ≡ on.at)
                × (after.best ≡ None))
                ⊎ ((leads.to.ways ≡ [] → ⊥)
                × (after.first ≡ first_left leads.to.restarts reported.first cursor.at)
                × (after.start_state_at ≡ reported.start_state_at)) →
                ((leads.to.ways ≡ []) × (after.first ≡ on.at) × (after.start_state_at ≡ on.at))
                ⊎ ((leads.to.ways ≡ [] → ⊥)
                × (after.first ≡ first_left leads.to.restarts reported.first cursor.at)
                × (after.start_state_at ≡ reported.start_state_at))
            by_ways (inl (none, e, f, free)) = inl (none, e, f)
            by_ways (inr (some, e, f)) = inr (some, e, f)

        after_is_reported : IsFirstAfter led.state cursor.at on.at reported.first after.first
            × IsStartStateAfter led.state on.at reported.start_state_at after.start_state_at
        after_is_reported =
            subst (λ (s : State). IsFirstAfter s cursor.at on.at reported.first after.first
            × IsStartStateAfter s on.at reported.start_state_at after.start_state_at) same
            (first_and_start_state leads.to cursor.at on.at reported.first after.first
            reported.start_state_at after.start_state_at reported_firsts)

        free : led.state.ways ≡ [] → after.best ≡ None
        free none = by_ways taken.first
          where
            by_ways : ((leads.to.ways ≡ []) × (after.first ≡ on.at) × (after.start_state_at ≡ on.at)
                × (after.best ≡ None))
                ⊎ ((leads.to.ways ≡ [] → ⊥)
                × (after.first ≡ first_left leads.to.restarts reported.first cursor.at)
                × (after.start_state_at ≡ reported.start_state_at)) → after.best ≡ None
            by_ways (inl (e, at, f, free)) = free
            by_ways (inr (some, e, f)) =
                absurd (some (ap (λ (s : State). s.ways) same ∙ none))

        pub cursor_on : IsCursorAt table entries (chars bs) low (p + 1) automaton on after
        cursor_on = record {
          x = next_state.state;
          row = subst (λ row. IsRowOf automaton row next_state.state) (sym taken.is_to) leads.row;
          scanning =
              scanned_on table entries (chars bs) low p automaton from is.scanning
              next_state.state after.best led next on.at after.first after.start_state_at next_is
              refl after_is_reported.0;
        }

        pub cursor_since : IsSince table entries (chars bs) low p reported.start_state_at
            after.start_state_at
        cursor_since =
            since_led table entries (chars bs) low p automaton from next_state.state after.best led
            on.at after.start_state_at (next_is.inside, next_is.bytes) free after_is_reported.1

      -- the transition completes a match where the least end is asked for
      pub cursor_completed : reported.best ≡ None → (leads.to.match_flag ≡ None → ⊥)
          → (match_start : MatchStart) → IsNumberedEndOf table (chars bs) entries low
          (best_reported (Some (match_start, cursor.at)))
      cursor_completed none some match_start = by_match_flag leads.to.match_flag refl
        where
          by_match_flag : (match_flag : Option StoredStart) → leads.to.match_flag ≡ match_flag
              → IsNumberedEndOf table (chars bs) entries low
              (best_reported (Some (match_start, cursor.at)))
          by_match_flag None same = absurd (some same)
          by_match_flag (Some kept) same =
              completed table entries (chars bs) low p automaton from is.scanning transitions true
              match_start same (λ _. none) (λ other. absurd (true≢false other))

      -- the transition leads from a match to nothing
      pub cursor_over : (after : DfaPosition) → EndsScan cursor.at leads.to reported after
          → IsBestOutcomeOf table (chars bs) entries low (best_reported after.best)
      cursor_over after over =
          let led = led_with after.best over.best in
          scan_over table entries (chars bs) low p automaton from is.scanning next_state.state
          after.best led here is.scanning.is
          (inr (
            over.some,
            ap (λ (s : State). s.ways)
                (same_some (sym led.is_state ∙ leads.is_to)) ∙ over.none,
          ))
