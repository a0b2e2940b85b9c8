-- A search that stands at a position, and takes a step from there.
use Rattle.regex_lite_meta.proofs.Common.{◌≡◌, ℕ, ◌+◌, ◌≤◌, Bool, true, false, ◌⊎◌, List, [], None}
use Rattle.regex_lite_meta.proofs.Common.{Option, MatchOption, sym, refl, ap, ◌∙◌, subst, arith}
use Rattle.regex_lite_meta.proofs.Common.{nil_from_length, Text, arrows_of, Thread, best_of}
use Rattle.regex_lite_meta.proofs.Common.{AreDeadAt, PassesTo, MatchStart, Cache, Here, Automaton}
use Rattle.regex_lite_meta.proofs.Common.{threads_of, ways_of, Suits, IsFirstStart, IsIn}
use Rattle.regex_lite_meta.proofs.Common.{IsOnItsWay, Stands, best_reported, IsScanning, ◌∷◌}
use Rattle.regex_lite_meta.proofs.Common.{length, Some, IsFoundOf, IsComing, best_kept}
use Rattle.regex_lite_engine.specs.Graph.Parts.{IsOwnPart, row_of}
use Rattle.regex_lite_engine.specs.Graph.Places.{Place}
use Rattle.regex_lite_meta.specs.LazyDfa.Automaton.{IsEmptyState}
use Rattle.regex_lite_engine.specs.Search.Bounds.{IsBoundedBy}
use Rattle.regex_lite_engine.specs.declared.search.patterns.Start.{Start}
use Rattle.regex_lite_meta.specs.declared.lazy_dfa.run.Position.{Position}
use Rattle.regex_lite_meta.specs.LazyDfa.Determinizing.{HasStepped}
use Rattle.regex_lite_meta.specs.LazyDfa.Running.{started_at}
use Rattle.regex_lite_engine.specs.Pikevm.Searching.{IsMatchFlag, StepsAgain}
use Rattle.regex_lite_engine.specs.Pikevm.Stepping.{EndsAt}
use Rattle.regex_lite_engine.specs.Search.Starts.{AreAllStarts}
use Rattle.regex_lite_meta.proofs.lazy_dfa.AnewLemmas.{found_from}
use Rattle.regex_lite_meta.proofs.lazy_dfa.RestartLemmas.{none_began}
use Rattle.regex_lite_meta.proofs.lazy_dfa.ResumeLemmas.{coming_less}
use Rattle.regex_lite_meta.proofs.lazy_dfa.RunLemmas.{at_later, bounded_on, bounded_own}
use Rattle.regex_lite_meta.proofs.lazy_dfa.RunLemmas.{maybe_in_empty, own_first, passed_over}
use Rattle.regex_lite_engine.proofs.pikevm.StopLemmas.{done_after, done_found}
use Rattle.regex_lite_engine.proofs.search.list_patterns.ListStartLemmas.{starts_at}

module _ {table : List (Place ℕ)} {h : Text} {entries : List ℕ} {s : ℕ} {automaton : Automaton}
    {at : Position} {S : Type 0} {cache : Cache S}
    (stands : Stands table h entries s automaton at cache) where
  -- where its state is known, it may follow cached transitions
  scanning_there : {x : ℕ} → at.state ≡ Some x → (best : Option (MatchStart × ℕ))
      → best_of cache.best ≡ best_reported best → IsScanning table entries h stands.from stands.p
      automaton
      (record {
        at = at.here.at;
        state = x;
        first = at.first;
        start_state_at = at.first;
        best = best;
      })
  scanning_there {x} known best same = record {
    state = is_in.state;
    is_state = is_in.is_state;
    here = at.here;
    is = stands.is;
    there = refl;
    later = stands.on.after;
    own = λ none. first_of cache.walk.memory.threads stands.own (is_in.ways ∙ none);
    suits = subst (Suits is_in.state.searching) same is_in.suits;
    sees = is_in.sees;
    coming =
        subst (λ ways. IsComing table h entries stands.from (length h) stands.p (threads_of at.first
        ways)
        (best_reported best)) is_in.ways
        (coming_less at.first table h entries stands.from (length h) stands.p
        cache.walk.memory.threads
        (best_reported best)
        (subst (IsComing table h entries stands.from (length h) stands.p cache.walk.memory.threads)
        same
        stands.on.coming));
  }
    where
      is_in : IsIn automaton x at.first at.here.before cache
      is_in =
          subst
          (λ o. MatchOption o (Unit {0}) (λ y. IsIn automaton y at.first at.here.before cache))
          known stands.state

      first_of : (ts : List Thread) → IsFirstStart at.first at.here.at ts
          → ways_of at.first ts ≡ [] → at.first ≡ at.here.at
      first_of [] own none = own
      first_of (t ∷ ts) own none = absurd cc

  -- no slots are kept
  reported_there : (best : Option (MatchStart × ℕ))
      → best_of cache.best ≡ best_kept best cache.best.row → best_of cache.best ≡ best_reported best
  reported_there best same =
      same
      ∙ ap (best_kept best)
      (nil_from_length cache.best.row (stands.on.ready.best_width ∙ stands.on.width))

  pub scans_there : {x : ℕ} → at.state ≡ Some x → (best : Option (MatchStart × ℕ))
      → best_of cache.best ≡ best_kept best cache.best.row → IsScanning table entries h stands.from
      stands.p automaton
      (record {
        at = at.here.at;
        state = x;
        first = at.first;
        start_state_at = at.first;
        best = best;
      })
  scans_there known best same = scanning_there known best (reported_there best same)

  pub bounded_there : (now : Cache S) → now ≡ cache →
      IsBoundedBy (length table) (arrows_of table + length entries) h s now.walk.steps.tried
      now.walk.steps.entered now.walk.steps.looked
  bounded_there now same =
      let low = stands.on.low in
      let inside = stands.is.inside in
      bounded_on table h entries s stands.from stands.p now (omega (arith, low, inside)) (omega
      (arith, inside))
      (subst (IsOnItsWay table h entries s stands.from stands.p) (sym same) stands.on)

  pub within_there : (now : Cache S) → now ≡ cache → (low len : ℕ)
      → IsOwnPart table entries low len
      → IsBoundedBy len (arrows_of (row_of table low len) + length entries) h s
      now.walk.steps.tried now.walk.steps.entered now.walk.steps.looked
  within_there now same =
      let low = stands.on.low in
      let inside = stands.is.inside in
      bounded_own table h entries s stands.from stands.p now (omega (arith, low, inside)) (omega
      (arith, inside))
      (subst (IsOnItsWay table h entries s stands.from stands.p) (sym same) stands.on)

  -- positions are passed over at which no match can begin
  module _ {here : Here} (passes : PassesTo (AreDeadAt table h entries) h stands.p here) where
    pub later_there : at.here.at ≤ here.at
    later_there = at_later h stands.p passes.q at.here here stands.is passes.is passes.later

    pub passed_there : cache.walk.memory.threads ≡ [] → best_of cache.best ≡ None
        → (now : Automaton) (state : Option ℕ)
        → MatchOption state (Unit {0}) (λ y. IsEmptyState now y here.before) → (until : ℕ) →
        Stands table h entries s now
        (record {
          here = here;
          state = state;
          first = here.at;
          until = until;
          anew = at.anew;
        }) cache
    passed_there none no_match now state empty until = record {
      p = passes.q;
      is = passes.is;
      from = stands.from;
      begun = stands.begun;
      own_from = stands.own_from;
      on = passed_over table h entries s stands.from stands.p cache here stands.on none no_match
          passes;
      first = omega arith;
      own = own_first here.at cache.walk.memory.threads none;
      state = maybe_in_empty now state here.at here.before cache empty none no_match;
    }

  -- after the step
  module _ {new : Cache S} (on : IsOnItsWay table h entries s stands.from (stands.p + 1) new) where
    pub bounded_after :
        IsBoundedBy (length table) (arrows_of table + length entries) h s new.walk.steps.tried
        new.walk.steps.entered new.walk.steps.looked
    bounded_after =
        let low = stands.on.low in
        let inside = stands.is.inside in
        bounded_on table h entries s stands.from (stands.p + 1) new (omega (arith, low, inside))
        (omega (arith, inside)) on

    pub within_after : (low len : ℕ) → IsOwnPart table entries low len
        → IsBoundedBy len (arrows_of (row_of table low len) + length entries) h s
        new.walk.steps.tried new.walk.steps.entered new.walk.steps.looked
    within_after =
        let low = stands.on.low in
        let inside = stands.is.inside in
        bounded_own table h entries s stands.from (stands.p + 1) new (omega (arith, low, inside))
        (omega (arith, inside)) on

    -- what is asked for is known
    pub found_there : (earliest : Bool) → (earliest ≡ true → best_of cache.best ≡ None)
        → EndsAt at.here.at (best_of cache.best) (best_of new.best)
        → ((at.here.after ≡ None)
        ⊎ ((best_of new.best ≡ None → ⊥) × (earliest ≡ false → length new.walk.memory.threads ≡ 0)))
        → IsFoundOf earliest table h entries s (best_of new.best)
    found_there earliest none ends done =
        found_from table h entries s stands.from stands.begun earliest (best_of new.best)
        (done_found earliest new.walk.memory.threads (best_of new.best)
        (done_after new.walk.memory.threads stands.on.after stands.is stands.on.coming none ends
        done) on.coming)

    -- the step was taken from its state, if that is known
    pub stepped_there : {starts : List Start} (match_flag : Bool) → AreAllStarts table entries
        starts → StepsAgain table starts at.here (started_at at.here.at) cache new match_flag
        → IsMatchFlag match_flag (best_of cache.best) (best_of new.best) →
        MatchOption at.state (Unit {0})
        (λ x. HasStepped table entries automaton x at.first at.here match_flag new)
    stepped_there {starts} match_flag all again is_match_flag = by_state at.state stands.state
      where
        by_state : (state : Option ℕ)
            → MatchOption state (Unit {0}) (λ x. IsIn automaton x at.first at.here.before cache) →
            MatchOption state (Unit {0})
            (λ x. HasStepped table entries automaton x at.first at.here match_flag new)
        by_state None known = tt
        by_state (Some x) known = record {
          before = cache;
          starts = starts;
          reported = started_at at.here.at;
          is_in = known;
          again = again;
          is_match_flag = is_match_flag;
          tells = λ number. record { start_reported = refl; number_reported = refl };
          is_first = stands.own;
          earlier = λ none.
              none_began table entries h stands.p at.here stands.is stands.from (length h)
              cache.walk.memory.threads (best_of cache.best) none stands.on.coming;
          suffice = λ h p there is. starts_at all h p;
        }
