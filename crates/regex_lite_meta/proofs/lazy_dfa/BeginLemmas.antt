-- A search that begins with cached transitions.
use Rattle.regex_lite_meta.proofs.Common.{◌≡◌, ℕ, ◌+◌, ◌^◌, ◌<◌, false, List, [], length, None}
use Rattle.regex_lite_meta.proofs.Common.{ap, ◌∙◌, sym, refl, subst, arith, Text, IsComing}
use Rattle.regex_lite_meta.proofs.Common.{IsScanning}
use Rattle.regex_lite_meta.proofs.Common.{IsUtf8, chars, IsCharBoundary, position_at, IsHere}
use Rattle.regex_lite_meta.proofs.Common.{IfSome, Some, Option}
use Rattle.regex_lite_meta.proofs.Common.{AreDeadAt, PassesTo, Cache, Here, Automaton, Suits}
use Rattle.regex_lite_meta.proofs.Common.{threads_of, Stands, DfaPosition}
use Rattle.regex_lite_engine.specs.Graph.Places.{Place}
use Rattle.regex_lite_engine.specs.Pikevm.Searching.{IsFresh}
use Rattle.regex_lite_engine.specs.Search.Starts.{SkipsTo}
use Rattle.regex_lite_syntax.specs.Text.{before}
use Rattle.regex_lite_meta.specs.LazyDfa.Automaton.{IsEmptyState}
use Rattle.regex_lite_meta.specs.LazyDfa.Scanning.{ComesTo, GoesOn}
use Rattle.regex_lite_meta.specs.declared.lazy_dfa.run.Position.{Position}
use Rattle.regex_lite_engine.proofs.pikevm.ComingLemmas.{jumped, none_coming}
use Rattle.regex_lite_meta.proofs.lazy_dfa.AnewLemmas.{none_before}
use Rattle.regex_lite_meta.proofs.lazy_dfa.HereLemmas.{here_at, here_is, passed_at}
use Rattle.regex_lite_meta.proofs.lazy_dfa.RunLemmas.{begun_on, own_first, passed_over}
use Rattle.regex_lite_meta.proofs.lazy_dfa.CursorLemmas.{since_on}

module _ (table : List (Place ℕ)) (h : Text) (entries : List ℕ) (s : ℕ) where
  abbrev pub begun_at : Here → Position
  begun_at here = record {
    here = here;
    state = None;
    first = here.at;
    until = 0;
    anew = false;
  }

  module _ (here : Here) (passes : PassesTo (AreDeadAt table h entries) h s here) where
    -- where it stands before its first transition, at a position before which no match begins
    pub begun_there : {S : Type 0} (automaton : Automaton) (cache : Cache S)
        → IsFresh table cache → length cache.walk.memory.row ≡ 0
        → Stands table h entries s automaton (begun_at here) cache
    begun_there automaton cache fresh width = record {
      p = passes.q;
      is = passes.is;
      from = s;
      begun = none_before table h entries s;
      own_from = λ own. refl;
      on = passed_over table h entries s s s cache here
          (begun_on table h entries s cache fresh width) fresh.no_threads fresh.none passes;
      first = omega arith;
      own = own_first here.at cache.walk.memory.threads fresh.no_threads;
      state = tt;
    }

    pub begun_as : {S : Type 0} (automaton : Automaton) (at : Position) (cache : Cache S)
        → at ≡ begun_at here → IsFresh table cache → length cache.walk.memory.row ≡ 0
        → Stands table h entries s automaton at cache
    begun_as automaton at cache same fresh width =
        subst (λ (at : Position). Stands table h entries s automaton at cache) (sym same)
        (begun_there automaton cache fresh width)

    -- cached transitions have led this far from there
    pub begun_with : {S : Type 0} (automaton : Automaton) (at : Position) (cache : Cache S)
        → at ≡ begun_at here → IsFresh table cache
        → length cache.walk.memory.row ≡ 0 → (stopped : DfaPosition)
        → ComesTo table entries h s passes.q here.at automaton stopped
        → (stands : Stands table h entries s automaton at cache)
        × ComesTo table entries h stands.from stands.p at.first automaton stopped
    unfolding begun_there
    begun_with automaton at cache same fresh width stopped comes =
        subst (λ (at : Position). (stands : Stands table h entries s automaton at cache)
        × ComesTo table entries h stands.from stands.p at.first automaton stopped) (sym same)
        (begun_there automaton cache fresh width, comes)

    -- they begin in the state for what looks see before
    starts_there : (automaton : Automaton) (x : ℕ) → IsEmptyState automaton x here.before
        → IsScanning table entries h s passes.q automaton
        (record { at = here.at; state = x; first = here.at; start_state_at = here.at; best = None })
    starts_there automaton x empty = record {
      state = empty.state;
      is_state = empty.is_state;
      here = here;
      is = passes.is;
      there = refl;
      later = passes.later;
      own = λ e. refl;
      suits = subst (λ b. Suits b None) (sym empty.searching) refl;
      sees = λ looks. sym (empty.sees looks);
      coming =
          subst (λ ways.
          IsComing table h entries s (length h) passes.q (threads_of here.at ways) None)
          (sym empty.none)
          (jumped table h entries s (length h) s passes.q [] refl passes.later passes.passed
          (none_coming table h entries s (length h) false [] refl));
    }

-- where there are no looks, any character may stand before
pub any_before : (automaton : Automaton) (found last : Option ℕ)
    → automaton.intervals.looks ≡ false → IfSome found (λ x. IsEmptyState automaton x None)
    → IfSome found (λ x. IsEmptyState automaton x last)
any_before automaton None last none empty = tt
any_before automaton (Some x) last none empty = record {
  state = empty.state;
  is_state = empty.is_state;
  none = empty.none;
  searching = empty.searching;
  sees = λ looks. absurd cc;
}

-- they begin at this offset, where the search has only passed positions at which no match begins
module _ (table : List (Place ℕ)) (entries : List ℕ) (bs : List ℕ) (u : IsUtf8 bs) (s at : ℕ)
    (edge : IsCharBoundary bs at)
    (skips : SkipsTo (AreDeadAt table (chars bs) entries) bs s at) where
  pub starts_at : length bs + 1 < 2 ^ 64 → (automaton : Automaton) (x : ℕ)
      → IsEmptyState automaton x (before (chars bs) (position_at bs at))
      → IsScanning table entries (chars bs) s (position_at bs at) automaton
      (record { at = at; state = x; first = at; start_state_at = at; best = None })
  starts_at fits automaton x empty =
      let here = here_at bs u fits at edge in
      let passes = skips here refl (here_is bs u fits at edge) in
      subst (λ q. IsScanning table entries (chars bs) s q automaton
      (record { at = at; state = x; first = at; start_state_at = at; best = None }))
      (sym (passed_at bs u passes))
      (starts_there table (chars bs) entries s here passes automaton x empty)

  -- cached transitions have led this far from there
  pub comes_from : (automaton : Automaton) (stopped : DfaPosition) (here : Here)
      → (same : here.at ≡ at) → (is : IsHere (chars bs) (position_at bs at) here)
      → ComesTo table entries (chars bs) s (position_at bs at) at automaton stopped
      → ComesTo table entries (chars bs) s (skips here same is).q here.at automaton stopped
  comes_from automaton stopped here same is comes =
      let passes = skips here same is in
      subst (λ first. ComesTo table entries (chars bs) s passes.q first automaton stopped)
      (sym same)
      (subst (λ p. ComesTo table entries (chars bs) s p at automaton stopped)
      (ap (position_at bs) (sym same) ∙ passed_at bs u passes) comes)

-- it has come further
pub comes_on : {table : List (Place ℕ)} {entries : List ℕ} {h : Text} {automaton : Automaton}
    {low p first : ℕ} {b c : DfaPosition} → ComesTo table entries h low p first automaton b
    → GoesOn table entries h automaton b c → ComesTo table entries h low p first automaton c
comes_on {table} {entries} {h} {automaton} {low} {p} {first} {b} {c} comes on =
    let r = on low comes.0 comes.2 in
    let le = comes.1 in
    let more = r.1 in (
      r.0,
      omega (arith, le, more),
      r.2,
      since_on table entries h low p comes.0 first b.start_state_at c.start_state_at le comes.3 r.3,
    )
