-- A search that follows cached transitions.
use Rattle.regex_lite_meta.proofs.Common.{◌≡◌, ℕ, suc, ◌+◌, Bool, true, false, ◌⊎◌, List, []}
use Rattle.regex_lite_meta.proofs.Common.{length, slice_get, Some, None, Option, option_map, sym}
use Rattle.regex_lite_meta.proofs.Common.{refl, ap, ◌∙◌, subst, inl, inr, arith, Text, IsComing}
use Rattle.regex_lite_meta.proofs.Common.{Best, IsBestOutcomeOf, IsNumberedEndOf, IsHere, AreDeadAt}
use Rattle.regex_lite_meta.proofs.Common.{PassesTo, MatchStart, Here, Row, Way, Automaton}
use Rattle.regex_lite_meta.proofs.Common.{reported_by, threads_of, best_left, searching_after}
use Rattle.regex_lite_meta.proofs.Common.{Suits, LeadsOn, best_kept, class_of, context_of}
use Rattle.regex_lite_meta.proofs.Common.{best_reported, IsStartStateAt, IsScanning, DfaPosition}
use Rattle.regex_lite_meta.proofs.Common.{IsFoundOf}
use Rattle.regex_lite_engine.specs.Graph.Places.{Place}
use Rattle.regex_lite_meta.specs.LazyDfa.Automaton.{State, StoredStart, first_left}
use Rattle.regex_lite_meta.specs.LazyDfa.Scanning.{EndsOrLeads, LedTo}
use Rattle.std.proofs.Common.{is_some}
use Rattle.regex_lite_syntax.specs.Text.{after, before}
use Rattle.regex_lite_engine.specs.Pikevm.Stepping.{EndsAt}
use Rattle.regex_lite_engine.proofs.pikevm.EndLemmas.{ended_all}
use Rattle.regex_lite_engine.proofs.search.here.HereLemmas.{over_at}
use Rattle.regex_lite_syntax.proofs.OptionLemmas.{not_there, same_some}
use Rattle.regex_lite_engine.proofs.pikevm.ShortestLemmas.{shortest_known}
use Rattle.regex_lite_engine.proofs.pikevm.ComingLemmas.{jumped}

still_suits : (match_flag : Option StoredStart) (searching : Bool) (i at : ℕ) (best : Best)
    → Suits searching best → Suits (searching_after match_flag searching)
    (best_left match_flag i at best)
still_suits None searching i at best s = s
still_suits (Some match_start) searching i at best s = λ e. not_there (sym e)

-- nobody asks for the first start where there are no ways
same_threads : (i j : ℕ) (ways : List Way) → (ways ≡ []) ⊎ (j ≡ i)
    → threads_of i ways ≡ threads_of j ways
same_threads i j ways (inl e) = ap (threads_of i) e ∙ sym (ap (threads_of j) e)
same_threads i j ways (inr e) = ap (λ z. threads_of z ways) (sym e)

-- the first start after a transition from the last offset to this state and this offset
abbrev pub IsFirstAfter : State → (last at : ℕ) → (before first : ℕ) → Type 0
IsFirstAfter state last at before first =
    ((state.ways ≡ []) × (first ≡ at))
    ⊎ ((state.ways ≡ [] → ⊥) × (first ≡ first_left state.restarts before last))

-- the last offset in the start state after that
abbrev pub IsStartStateAfter : State → (at : ℕ) → (before in_start : ℕ) → Type 0
IsStartStateAfter state at before in_start = ((state.ways ≡ []) × (in_start ≡ at))
    ⊎ (in_start ≡ before)

-- both, as they are given
pub first_and_start_state : (state : State) (last at before first before_start_state in_start : ℕ)
    → ((state.ways ≡ []) × (first ≡ at) × (in_start ≡ at))
    ⊎ ((state.ways ≡ [] → ⊥) × (first ≡ first_left state.restarts before last)
    × (in_start ≡ before_start_state))
    → IsFirstAfter state last at before first × IsStartStateAfter state at before_start_state
    in_start
first_and_start_state state last at before first before_start_state in_start
    (inl (none, own, same)) =
    (inl (none, own), inl (none, same))
first_and_start_state state last at before first before_start_state in_start
    (inr (some, own, same)) =
    (inr (some, own), inr same)

-- the character before the next position
pub next_before : (h : Text) (p : ℕ) (next : Here) → IsHere h (p + 1) next → next.before ≡ after h p
next_before h p next on = on.behind ∙ ap (before h) more
  where
    more : p + 1 ≡ suc p
    more = omega arith

-- the transition before this character leads to a state in which this match is known
pub record TransitionsTo (table : List (Place ℕ)) (entries : List ℕ) (automaton : Automaton) (x : ℕ)
    (after : Option ℕ) (y : ℕ) (match_flag : Option StoredStart) : Type 0 where
  pub class : ℕ
  pub is_class : class_of automaton.intervals.boundaries after ≡ class
  pub from : State
  pub is_from : slice_get automaton.states x ≡ Some from
  pub to : State
  pub is_to : slice_get automaton.states y ≡ Some to
  pub leads : LeadsOn table entries automaton.intervals from class to
  pub is_match_flag : to.match_flag ≡ match_flag

module _ (table : List (Place ℕ)) (entries : List ℕ) (h : Text) (low p : ℕ) (automaton : Automaton)
    (at : DfaPosition) (scanning : IsScanning table entries h low p automaton at) where
  module _ {y : ℕ} {match_flag : Option StoredStart}
      (transition : TransitionsTo table entries automaton at.state (after h p) y match_flag) where
    here_class : class_of automaton.intervals.boundaries scanning.here.after ≡ transition.class
    here_class = ap (class_of automaton.intervals.boundaries) scanning.is.ahead
        ∙ transition.is_class

    leads_here : LeadsOn table entries automaton.intervals scanning.state transition.class
        transition.to
    leads_here =
        subst (λ s. LeadsOn table entries automaton.intervals s transition.class transition.to)
        (same_some (sym transition.is_from ∙ scanning.is_state)) transition.leads

    coming_next : (best : Best) → Suits scanning.state.searching best →
        IsComing table h entries low (length h) p (threads_of at.first scanning.state.ways) best →
        IsComing table h entries low (length h) (p + 1)
        (threads_of (first_left transition.to.restarts at.first at.at) transition.to.ways)
        (best_left match_flag at.first at.at best)
    coming_next best suits coming =
        subst (λ z. IsComing table h entries low (length h) (p + 1)
        (threads_of (first_left transition.to.restarts at.first z) transition.to.ways)
        (best_left match_flag at.first z best)) scanning.there
        (subst (λ z. IsComing table h entries low (length h) (p + 1)
        (threads_of (first_left transition.to.restarts at.first scanning.here.at)
        transition.to.ways) (best_left z at.first scanning.here.at best)) transition.is_match_flag
        (leads_here.on scanning.here (record { ahead = here_class; behind = scanning.sees })
        at.first (λ none. scanning.own none ∙ sym scanning.there) best suits h p low (length h)
        scanning.is scanning.later scanning.is.inside coming))

    pub led_step : (best : Option (MatchStart × ℕ))
        → best_reported best ≡ best_left match_flag at.first at.at (best_reported at.best) →
        LedTo table entries h low p automaton at y best
    led_step best left = record {
      state = transition.to;
      is_state = transition.is_to;
      suits =
          subst (λ b. Suits b (best_reported best))
          (ap (λ match_flag. searching_after match_flag scanning.state.searching)
          (sym transition.is_match_flag) ∙ sym leads_here.searching)
          (subst (Suits (searching_after match_flag scanning.state.searching)) (sym left)
          (still_suits match_flag scanning.state.searching at.first at.at (best_reported at.best)
          scanning.suits));
      sees = λ looks.
          ap context_of (sym scanning.is.ahead)
          ∙ leads_here.before looks scanning.here here_class;
      coming =
          subst
          (IsComing table h entries low (length h) (p + 1)
          (threads_of (first_left transition.to.restarts at.first at.at) transition.to.ways))
          (sym left) (coming_next (best_reported at.best) scanning.suits scanning.coming);
    }

    -- a transition without a match before it ends the search where it completes one, or at the end
    pub end_led : at.best ≡ None
        → ((p ≡ length h) ⊎ (best_left match_flag at.first at.at None ≡ None → ⊥)) →
        IsNumberedEndOf table h entries low (best_left match_flag at.first at.at None)
    end_led none over =
        shortest_known table h entries low p at.at (threads_of at.first scanning.state.ways)
        (threads_of (first_left transition.to.restarts at.first at.at) transition.to.ways) None
        (best_left match_flag at.first at.at None)
        scanning.later scanning.is.inside refl (sym scanning.there ∙ scanning.is.bytes)
        (ends match_flag) over before
        (coming_next None (subst (λ b. Suits scanning.state.searching (best_reported b)) none
        scanning.suits) before)
      where
        before : IsComing table h entries low (length h) p
            (threads_of at.first scanning.state.ways) None
        before =
            subst (λ b. IsComing table h entries low (length h) p
            (threads_of at.first scanning.state.ways) (best_reported b)) none scanning.coming

        ends : (match_flag : Option StoredStart)
            → EndsAt at.at None (best_left match_flag at.first at.at None)
        ends None = inl refl
        ends (Some match_start) = inr (reported_by at.first match_start, [], refl)

    -- a transition completes a match that ends here. If the least end is asked for, its start says
    -- nothing
    pub completed : {match_start : StoredStart} (earliest : Bool) (reported : MatchStart)
        → match_flag ≡ Some match_start → (earliest ≡ true → at.best ≡ None)
        → (earliest ≡ false
        → reported_by at.first match_start ≡ record {
          at = Some reported.at;
          number = Some reported.number;
        }) → EndsOrLeads table entries h low p automaton earliest at y
        (Some (reported, at.at))
    completed false reported is none same =
        led_step (Some (reported, at.at))
        (ap (λ z. Some (z, at.at, [])) (sym (same refl))
        ∙ ap (λ z. best_left z at.first at.at (best_reported at.best)) (sym is))
    completed {match_start} true reported is none same =
        subst (λ z. IsNumberedEndOf table h entries low (best_left z at.first at.at None)) is
        (end_led (none refl)
        (inr (subst (λ z. best_left z at.first at.at None ≡ None → ⊥) (sym is)
        (λ e. not_there (sym e)))))

  -- a transition that completes no match leads on
  pub led_none : {y : ℕ} (earliest : Bool) → (earliest ≡ true → at.best ≡ None)
      → LedTo table entries h low p automaton at y at.best
      → EndsOrLeads table entries h low p automaton earliest at y at.best
  led_none false none led = led
  led_none {y} true none led =
      subst (EndsOrLeads table entries h low p automaton true at y) (sym (none refl))
      (subst (LedTo table entries h low p automaton at y) (none refl) led)

  module _ (y : ℕ) (best : Option (MatchStart × ℕ))
      (to : LedTo table entries h low p automaton at y best) where
    pub scanned_on : (next : Here) (end first in_start : ℕ) → IsHere h (p + 1) next
        → next.at ≡ end → IsFirstAfter to.state at.at end at.first first →
        IsScanning table entries h low (p + 1) automaton
        (record { at = end; state = y; first = first; start_state_at = in_start; best = best })
    scanned_on next end first in_start is there reported = let later = scanning.later in record {
      state = to.state;
      is_state = to.is_state;
      here = next;
      is = is;
      there = there;
      later = omega (arith, later);
      own = own reported;
      suits = to.suits;
      sees = λ looks. ap context_of (next_before h p next is) ∙ to.sees looks;
      coming =
          subst (λ z. IsComing table h entries low (length h) (p + 1) z (best_reported best))
          (same_threads (first_left to.state.restarts at.first at.at) first to.state.ways
          (firsts reported)) to.coming;
    }
      where
        own : IsFirstAfter to.state at.at end at.first first
            → to.state.ways ≡ [] → first ≡ end
        own (inl (none, e)) empty = e
        own (inr (some, e)) empty = absurd (some empty)

        firsts : IsFirstAfter to.state at.at end at.first first
            → (to.state.ways ≡ []) ⊎ (first ≡ first_left to.state.restarts at.first at.at)
        firsts (inl (none, e)) = inl none
        firsts (inr (some, e)) = inr e

    pub scan_over : (here : Here) → IsHere h p here
        → ((here.after ≡ None) ⊎ ((best_reported best ≡ None → ⊥) × (to.state.ways ≡ [])))
        → IsBestOutcomeOf table h entries low (best_reported best)
    scan_over here is over =
        ended_all table h entries low p
        (threads_of (first_left to.state.restarts at.first at.at) to.state.ways)
        (best_reported best)
        scanning.later scanning.is.inside (at_end (over_at h p here is over)) to.coming
      where
        at_end : ((p ≡ length h) ⊎ ((best_reported best ≡ None → ⊥) × (to.state.ways ≡ [])))
            → (p ≡ length h)
            ⊎ ((best_reported best ≡ None → ⊥) × (length (threads_of
            (first_left to.state.restarts at.first at.at) to.state.ways) ≡ 0))
        at_end (inl e) = inl e
        at_end (inr (some, e)) = inr (
          some,
          ap (λ ways. length (threads_of (first_left to.state.restarts at.first at.at) ways))
              e,
        )

  -- positions are passed over at which no match can begin
  module _ (here : Here) (passes : PassesTo (AreDeadAt table h entries) h p here)
      (in_start : scanning.state.ways ≡ []) (none : best_reported at.best ≡ None) where
    pub start_state_there : IsComing table h entries low (length h) passes.q [] None
    start_state_there =
        jumped table h entries low (length h) p passes.q [] refl passes.later passes.passed
        (subst (λ z. IsComing table h entries low (length h) p [] z) none
        (subst (λ ways. IsComing table h entries low (length h) p (threads_of at.first ways)
        (best_reported at.best)) in_start scanning.coming))

    pub is_start_state : IsStartStateAt table entries h low p here.at
    is_start_state = record {
      r = passes.q;
      later = passes.later;
      is = (passes.is.inside, passes.is.bytes);
      coming = start_state_there;
    }

    pub skipped : (x : ℕ) (state : State) → slice_get automaton.states x ≡ Some state
        → state.ways ≡ [] → state.searching ≡ true
        → (automaton.intervals.looks ≡ true → state.before ≡ context_of here.before) →
        IsScanning table entries h low passes.q automaton
        (record { at = here.at; state = x; first = here.at; start_state_at = here.at; best = None })
    skipped x state x_at empty searching sees =
        let later = scanning.later in let more = passes.later in record {
          state = state;
          is_state = x_at;
          here = here;
          is = passes.is;
          there = refl;
          later = omega (arith, later, more);
          own = λ e. refl;
          suits = subst (λ b. Suits b None) (sym searching) refl;
          sees = λ looks. sym (sees looks);
          coming =
              subst
              (λ ways.
              IsComing table h entries low (length h) passes.q (threads_of here.at ways) None)
              (sym empty) start_state_there;
        }

-- at the end of the haystack there is no match
pub end_none : (table : List (Place ℕ)) (entries : List ℕ) (h : Text) (low p : ℕ)
    (automaton : Automaton) (at : DfaPosition)
    → IsScanning table entries h low p automaton at → at.best ≡ None → (y : ℕ)
    → LedTo table entries h low p automaton at y None → (here : Here) → IsHere h p here →
    here.after ≡ None → IsNumberedEndOf table h entries low None
end_none table entries h low p automaton at scanning none y to here is last =
    shortest_known table h entries low p here.at (threads_of at.first scanning.state.ways)
    (threads_of (first_left to.state.restarts at.first at.at) to.state.ways) None None
    scanning.later scanning.is.inside refl
    is.bytes (inl refl)
    (over_at {Q = None ≡ None → ⊥} h p here is (inl last))
    (subst (λ b. IsComing table h entries low (length h) p (threads_of at.first scanning.state.ways)
    (best_reported b)) none scanning.coming) to.coming

module _ (table : List (Place ℕ)) (entries : List ℕ) (h : Text) (low p : ℕ) (automaton : Automaton)
    (at : DfaPosition) (y : ℕ) where
  -- the search goes on after the step
  pub leads_on : (earliest : Bool) (best : Option (MatchStart × ℕ))
      → (earliest ≡ true → best ≡ None) → EndsOrLeads table entries h low p automaton earliest at y
      best → LedTo table entries h low p automaton at y best
  leads_on false best none led = led
  leads_on true None none led = led
  leads_on true (Some found) none led = absurd (not_there (sym (none refl)))

  -- it is over after the step
  pub scan_found : (here : Here) → IsHere h p here → (earliest : Bool)
      (best : Option (MatchStart × ℕ))
      → IsScanning table entries h low p automaton at → (earliest ≡ true → at.best ≡ None)
      → EndsOrLeads table entries h low p automaton earliest at y best
      → ((state : State) → slice_get automaton.states y ≡ Some state → earliest ≡ false
      → (here.after ≡ None) ⊎ ((best_reported best ≡ None → ⊥) × (state.ways ≡ [])))
      → (here.after ≡ None) ⊎ (best ≡ None → ⊥)
      → IsFoundOf earliest table h entries low (best_reported best)
  scan_found here is false best scanning none led over known =
      scan_over table entries h low p automaton at scanning y best led here is
      (over led.state led.is_state refl)
  scan_found here is true None scanning none led over known =
      end_none table entries h low p automaton at scanning (none refl) y led here is (last known)
    where
      last : {found : Option (MatchStart × ℕ)} → (here.after ≡ None) ⊎ (found ≡ found → ⊥)
          → here.after ≡ None
      last (inl e) = e
      last (inr some) = absurd (some refl)
  scan_found here is true (Some found) scanning none led over known = led

-- the most preferred match is what is asked for
pub preferred : (table : List (Place ℕ)) (h : Text) (entries : List ℕ) (s : ℕ) (best : Best)
    (earliest : Bool) → (earliest ≡ true → ⊥) → IsBestOutcomeOf table h entries s best
    → IsFoundOf earliest table h entries s best
preferred table h entries s best false never is = is
preferred table h entries s best true never is = absurd (never refl)

pub some_kept : (found : Option (MatchStart × ℕ)) (row : Row)
    → is_some found ≡ is_some (option_map (λ best. best.1) (best_kept found row))
some_kept None row = refl
some_kept (Some found) row = refl

pub none_found : {best : Best} (found : Option (MatchStart × ℕ)) (row : Row)
    → best ≡ best_kept found row → best ≡ None → found ≡ None
none_found None row is none = refl
none_found (Some found) row is none = absurd (not_there (sym none ∙ is))

pub best_none : (best : Option (MatchStart × ℕ)) (reported : Bool) → reported ≡ is_some best
    → reported ≡ false → best_reported best ≡ None
best_none None reported e f = refl
best_none (Some b) reported e f = absurd cc
