-- Scans: searches that follow cached transitions.
use Rattle.std.specs.Prelude.{◌≡◌, ◌+◌, ◌≤◌, ◌⊎◌, ℕ, Bool, true, false, List, []}
use Rattle.std.specs.Prelude.{length, slice_get, Option, None, Some}
use Rattle.regex_lite_syntax.specs.Text.{Text, after}
use Rattle.regex_lite_meta.specs.declared.lazy_dfa.scan.DfaPosition.{DfaPosition}
use Rattle.regex_lite_engine.specs.declared.pikevm.thread_start.MatchStart.{MatchStart}
use Rattle.regex_lite_engine.specs.declared.search.here.Here.{Here}
use Rattle.regex_lite_engine.specs.Graph.Places.{Place}
use Rattle.regex_lite_meta.specs.LazyDfa.Automaton.{Automaton, State, Suits, first_left}
use Rattle.regex_lite_meta.specs.LazyDfa.Automaton.{threads_of}
use Rattle.regex_lite_meta.specs.LazyDfa.Intervals.{context_of}
use Rattle.regex_lite_engine.specs.Search.NumberedOutcomes.{IsFoundOf}
use Rattle.regex_lite_engine.specs.Search.NumberedOutcomes.{IsNumberedEndOf}
use Rattle.regex_lite_engine.specs.Search.NumberedOutcomes.{Best, best_at, best_kept}
use Rattle.regex_lite_engine.specs.Search.NumberedOutcomes.{with_start_kept}
use Rattle.regex_lite_engine.specs.Search.Offsets.{IsOffset}
use Rattle.regex_lite_engine.specs.Search.Here.{IsHere}
use Rattle.regex_lite_engine.specs.Pikevm.Stepping.{IsComing}

-- the match with this start and end, without slots
abbrev pub best_reported : Option (MatchStart × ℕ) → Best
best_reported found = best_kept found []

-- the match with this span, without slots
abbrev pub span_reported : Option (ℕ × ℕ) → Best
span_reported found = with_start_kept (best_at found [])

module _ (table : List (Place ℕ)) (entries : List ℕ) (haystack : Text) (low : ℕ) where
  -- at this offset, at or after position p, a search from p on has no thread and no match
  pub record IsStartStateAt (p at : ℕ) : Type 0 where
    pub r : ℕ
    pub later : p ≤ r
    pub is : IsOffset haystack r at
    pub coming : IsComing table haystack entries low (length haystack) r [] None

  -- the offset is unchanged, or one at or after position p without thread and match
  abbrev pub IsSince : (p before in_start : ℕ) → Type 0
  IsSince p before in_start = (in_start ≡ before) ⊎ IsStartStateAt p in_start

  module _ (p : ℕ) (automaton : Automaton) where
    -- a scan for a search from position low on is at position p
    pub record IsScanning (at : DfaPosition) : Type 0 where
      pub state : State
      pub is_state : slice_get automaton.states at.state ≡ Some state
      -- the position, with the characters beside it
      pub here : Here
      pub is : IsHere haystack p here
      pub there : here.at ≡ at.at
      pub later : low ≤ p
      pub own : state.ways ≡ [] → at.first ≡ at.at
      pub suits : Suits state.searching (best_reported at.best)
      pub sees : automaton.intervals.looks ≡ true → context_of here.before ≡ state.before
      pub coming : IsComing table haystack entries low (length haystack) p
          (threads_of at.first state.ways) (best_reported at.best)

    -- the transition from this position leads to this state and this match
    pub record LedTo (at : DfaPosition) (to : ℕ) (best : Option (MatchStart × ℕ)) : Type 0 where
      pub state : State
      pub is_state : slice_get automaton.states to ≡ Some state
      pub suits : Suits state.searching (best_reported best)
      pub sees : automaton.intervals.looks ≡ true → context_of (after haystack p) ≡ state.before
      pub coming : IsComing table haystack entries low (length haystack) (p + 1)
          (threads_of (first_left state.restarts at.first at.at) state.ways) (best_reported best)

    -- the transition from this position leads to this state and this match; if `earliest`, a
    -- transition that completes a match ends the search
    abbrev pub EndsOrLeads : (earliest : Bool) → (at : DfaPosition) → (to : ℕ)
        → (best : Option (MatchStart × ℕ)) → Type 0
    EndsOrLeads false at to best = LedTo at to best
    EndsOrLeads true at to None = LedTo at to None
    EndsOrLeads true at to (Some best) =
        IsNumberedEndOf table haystack entries low (best_reported (Some best))

  -- a scan reaches this position from position p; the last offset without thread and match is this
  -- one or a later one
  abbrev pub ComesTo : (p in_start : ℕ) → Automaton → (at : DfaPosition) → Type 0
  ComesTo p in_start automaton at =
      (q : ℕ) × (p ≤ q) × IsScanning q automaton at × IsSince p in_start at.start_state_at

-- a scan goes from one position to another, which is the same or later
abbrev pub GoesOn : List (Place ℕ) → List ℕ → Text → Automaton → (from at : DfaPosition) → Type 0
GoesOn table entries haystack automaton from at = (low p : ℕ)
    → IsScanning table entries haystack low p automaton from
    → ComesTo table entries haystack low p from.start_state_at automaton at

-- a scan that continues from there is over, and this is its match or, if `earliest`, a match that
-- ends there
abbrev pub EndsWith : List (Place ℕ) → List ℕ → Text → Automaton → (earliest : Bool)
    → (from : DfaPosition) → Option (MatchStart × ℕ) → Type 0
EndsWith table entries haystack automaton earliest from best = (low p : ℕ)
    → IsScanning table entries haystack low p automaton from
    → IsFoundOf earliest table haystack entries low (best_reported best)
