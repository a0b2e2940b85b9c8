-- A search that follows cached transitions passes over positions in the same state.
use Rattle.regex_lite_meta.proofs.Common.{◌≡◌, ℕ, ◌≤◌, Bool, true, false, List, [], slice_get, Some}
use Rattle.regex_lite_meta.proofs.Common.{None, sym, refl, ap, subst, inr, Text, Best, AreDeadAt}
use Rattle.regex_lite_meta.proofs.Common.{PassesTo, Here, Automaton, Suits, best_reported, IsSince}
use Rattle.regex_lite_meta.proofs.Common.{IsScanning, DfaPosition}
use Rattle.regex_lite_engine.specs.Graph.Places.{Place}
use Rattle.regex_lite_meta.specs.LazyDfa.Automaton.{State}
use Rattle.regex_lite_meta.proofs.lazy_dfa.ScanLemmas.{is_start_state, skipped}

-- a match is searched for where there is none
still_searching : (searching : Bool) (best : Best) → Suits searching best → best ≡ None
    → searching ≡ true
still_searching true best suits none = refl
still_searching false best suits none = absurd (suits none)

module _ (table : List (Place ℕ)) (entries : List ℕ) (h : Text) (low p : ℕ) (automaton : Automaton)
    (at : DfaPosition) (scanning : IsScanning table entries h low p automaton at) (next : Here)
    (passes : PassesTo (AreDeadAt table h entries) h p next)
    (empty : (state : State) → slice_get automaton.states at.state ≡ Some state → state.ways ≡ [])
    (none : at.best ≡ None) where
  in_start : scanning.state.ways ≡ []
  in_start = empty scanning.state scanning.is_state

  -- without looks it is in the same state there
  pub prefilter_skipped : automaton.intervals.looks ≡ false → (q : ℕ) × (p ≤ q)
      × IsScanning table entries h low q automaton (record at {
        at = next.at;
        first = next.at;
        start_state_at = next.at;
      })
      × IsSince table entries h low p at.start_state_at next.at
  prefilter_skipped no_looks = (
    passes.q,
    passes.later,
    subst
        (λ best. IsScanning table entries h low passes.q automaton
        (record {
          at = next.at;
          state = at.state;
          first = next.at;
          start_state_at = next.at;
          best = best;
        })) (sym none)
        (skipped table entries h low p automaton at scanning next passes in_start
        (ap best_reported none) at.state scanning.state scanning.is_state in_start
        (still_searching scanning.state.searching (best_reported at.best) scanning.suits
        (ap best_reported none)) (λ looks. absurd cc)),
    inr (is_start_state table entries h low p automaton at scanning next passes in_start
        (ap best_reported none)),
  )
