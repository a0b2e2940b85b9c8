-- A step that is cached as a transition once it has been taken.
use Rattle.regex_lite_meta.proofs.Common.{◌≡◌, ℕ, zero, suc, ◌<◌, ◌≤◌, Bool, true, false, List, []}
use Rattle.regex_lite_meta.proofs.Common.{◌==◌, nat_tests, not}
use Rattle.regex_lite_meta.proofs.Common.{◌∷◌, ◌++◌, length, slice_get, slice_set, Some, None}
use Rattle.regex_lite_meta.proofs.Common.{Option, sym, refl, ap, ◌∙◌, subst, inl, inr, arith}
use Rattle.regex_lite_meta.proofs.Common.{length-map, AreAlike, Thread, best_of, Best, Cache, Here}
use Rattle.regex_lite_meta.proofs.Common.{Way, Automaton, ways_of, searching_after, Suits, LeadsOn}
use Rattle.regex_lite_meta.proofs.Common.{FitsTable, IsDfaOf, Extends, class_of, context_of, IsIn}
use Rattle.regex_lite_engine.specs.Graph.Places.{Place, reading_of}
use Rattle.regex_lite_meta.specs.LazyDfa.Automaton.{FitsOwnParts, StoredStart, State, Sees}
use Rattle.regex_lite_meta.specs.LazyDfa.Automaton.{match_flag_of, way_of}
use Rattle.std.proofs.lemmas.Bool.{cases_eq}
use Rattle.regex_lite_engine.specs.Pikevm.Machine.{thread_at}
use Rattle.regex_lite_engine.specs.Pikevm.Capacity.{ThreadsBelow}
use Rattle.regex_lite_meta.specs.LazyDfa.Determinizing.{HasStepped, IsFirstAfterTransition}
use Rattle.regex_lite_engine.specs.Pikevm.Searching.{IsMatchFlag}
use Rattle.regex_lite_meta.proofs.lazy_dfa.AlikeLemmas.{same_context_of}
use Rattle.regex_lite_meta.proofs.lazy_dfa.CachedLemmas.{IsNextStart, cached, set_other, set_there}
use Rattle.regex_lite_meta.proofs.lazy_dfa.CachedLemmas.{still_is_dfa}
use Rattle.regex_lite_meta.proofs.lazy_dfa.RestartLemmas.{none_before}
use Rattle.regex_lite_syntax.proofs.OptionLemmas.{not_there, same_some}

-- what is pending is none of it
pub is_dfa_pending : (table : List (Place ℕ)) (entries : List ℕ) (automaton : Automaton)
    (pending : List Way)
    → IsDfaOf table entries automaton
    → IsDfaOf table entries (record automaton { pending = pending })
is_dfa_pending table entries automaton pending is_dfa =
    record {
      intervals = is_dfa.intervals;
      reach = is_dfa.reach;
      leads = is_dfa.leads;
      fit = is_dfa.fit;
    }

-- the ways of threads fit where the threads do
pub ways_fit : (table : List (Place ℕ)) (entries : List ℕ) (first : ℕ) (threads : List Thread)
    → ThreadsBelow (length table) threads → length threads ≤ reading_of table
    → FitsOwnParts table entries (length threads)
    → FitsTable table entries (ways_of first threads)
ways_fit table entries first threads below few own = record {
  below = each threads below;
  few = let n = length-map threads (way_of first) in omega (arith, n, few);
  own = subst (FitsOwnParts table entries) (sym (length-map threads (way_of first))) own;
}
  where
    each : (ts : List Thread) → ((k : ℕ) → k < length ts → (thread_at ts k).0 < length table)
        → (k : ℕ) (way : Way) → slice_get (ways_of first ts) k ≡ Some way → way.place < length table
    each [] below k way at = absurd (not_there at)
    each (t ∷ ts) below zero way at =
        subst (λ (w : Way). w.place < length table) (same_some at) (below 0 (omega arith))
    each (t ∷ ts) below (suc k) way at =
        each ts (λ j lt. below (suc j) (omega (arith, lt))) k way at

-- what is cached stays so while the ways of the threads become those of a state
pub is_dfa_settled : (table : List (Place ℕ)) (entries : List ℕ)
    (old gathered settled : Automaton) (first : ℕ) (threads : List Thread)
    → gathered ≡ record old { pending = old.pending ++ ways_of first threads } → old.pending ≡ []
    → IsDfaOf table entries old → ThreadsBelow (length table) threads
    → length threads ≤ reading_of table → FitsOwnParts table entries (length threads)
    → Extends gathered settled
    → (gathered.pending ≡ ways_of first threads) × IsDfaOf table entries settled
is_dfa_settled table entries old gathered settled first threads all none is_dfa below few
    own extends =
    let ways = ways_of first threads in
    let pending : gathered.pending ≡ ways =
    ap (λ (z : Automaton). z.pending) all ∙ ap (λ own. own ++ ways) none in (
      pending,
      still_is_dfa table entries gathered settled
          (subst (IsDfaOf table entries) (sym all)
          (is_dfa_pending table entries old (old.pending ++ ways) is_dfa)) extends
          (subst (FitsTable table entries) (sym pending)
          (ways_fit table entries first threads below few own)),
    )

-- there is a match afterwards where none is searched for
pub suits_after : (first : ℕ) (match_flag : Bool) (before now : Best) (last : Option StoredStart)
    (searching : Bool)
    → IsMatchFlag match_flag before now → last ≡ match_flag_of first match_flag now → Suits
    searching before → Suits (searching_after last searching) now
suits_after first false before now last searching same e suits =
    subst (λ l. Suits (searching_after l searching) now) (sym e)
    (subst (Suits searching) (sym same) suits)
suits_after first true before None last searching some e suits = absurd (some refl)
suits_after first true before (Some b) last searching some e suits =
    subst (λ l. Suits (searching_after l searching) (Some b)) (sym e) some

-- a search is in the state still, whatever is cached of another or of this one
pub still_in : {S : Type 0} (automaton : Automaton) (x class z : ℕ) (from : State)
    → slice_get automaton.states x ≡ Some from → (y first : ℕ) (before : Option ℕ) (cache : Cache S)
    → IsIn automaton y first before cache →
    IsIn (record automaton {
      states = slice_set automaton.states x (record from { next = slice_set from.next class z });
    }) y first before cache
still_in automaton x class z from at y first before cache is_in = elim (cases_eq y x) [
  | inl same ↦
      let own : is_in.state ≡ from =
      same_some (sym is_in.is_state ∙ ap (slice_get automaton.states) same ∙ at) in
      record {
        state = record from { next = slice_set from.next class z };
        is_state =
            ap (slice_get
            (slice_set automaton.states x (record from { next = slice_set from.next class z })))
            same
            ∙ set_there automaton.states x from
            (record from { next = slice_set from.next class z }) at;
        ways = is_in.ways ∙ ap (λ (s : State). s.ways) own;
        suits = subst (λ (s : State). Suits s.searching (best_of cache.best)) own is_in.suits;
        sees = λ looks. is_in.sees looks ∙ ap (λ (s : State). s.before) own;
      }
  | inr other ↦
      record {
        state = is_in.state;
        is_state =
            set_other automaton.states x
            (record from { next = slice_set from.next class z }) y is_in.state other is_in.is_state;
        ways = is_in.ways;
        suits = is_in.suits;
        sees = is_in.sees;
      }
]

eq_there : (a b : ℕ) → (a == b) ≡ true → a ≡ b
eq_there a b e = grind (arith, nat_tests)

-- whether the first start after a transition is another one
pub next_start : {table : List (Place ℕ)} {entries : List ℕ} {S : Type 0} {automaton : Automaton}
    {x first next : ℕ} {here : Here} {match_flag : Bool} {now : Cache S}
    → (stepped : HasStepped table entries automaton x first here match_flag now)
    → IsFirstAfterTransition first here.at (best_of now.best) next
    → IsNextStart (not (next == first)) first here.at next (best_of stepped.before.best)
    (best_of now.best) stepped.before.walk.memory.threads
next_start {first} {next} {here} {match_flag} {now} stepped after = by_test (next == first) refl
    after
  where
    by_test : (same : Bool) → (next == first) ≡ same
        → IsFirstAfterTransition first here.at (best_of now.best) next
        → IsNextStart (not same) first here.at next (best_of stepped.before.best)
        (best_of now.best) stepped.before.walk.memory.threads
    by_test true e after = eq_there next first e
    by_test false e (inl kept) = absurd (other next first e kept)
      where
        other : (a b : ℕ) → (a == b) ≡ false → a ≡ b → ⊥
        other a b e f = grind (arith, nat_tests)
    by_test false e (inr (own, none)) =
        let free = none_before match_flag (best_of stepped.before.best) (best_of now.best)
        stepped.is_match_flag none in (own, free, none, stepped.earlier free)

module _ (table : List (Place ℕ)) (entries : List ℕ) {S : Type 0} (old new : Automaton)
    (same : new.intervals ≡ old.intervals) (is_dfa : IsDfaOf table entries new) (x first : ℕ)
    (here : Here) (match_flag : Bool) (now : Cache S)
    (stepped : HasStepped table entries old x first here match_flag now) (class : ℕ)
    (is_class : class_of new.intervals.boundaries here.after ≡ class) (to : State) (next : ℕ)
    (is_next : IsNextStart to.restarts first here.at next (best_of stepped.before.best)
    (best_of now.best) stepped.before.walk.memory.threads)
    (ways : to.ways ≡ ways_of next now.walk.memory.threads)
    (is_match_flag : to.match_flag ≡ match_flag_of first match_flag (best_of now.best))
    (searching : to.searching ≡ searching_after to.match_flag stepped.is_in.state.searching)
    (before : new.intervals.looks ≡ true → to.before ≡ context_of here.after) where
  alike : (there : Here) → Sees new.intervals stepped.is_in.state.before class there
      → AreAlike table entries here there
  alike there sees = is_dfa.intervals.alike here there (record {
    ahead = is_class ∙ sym sees.ahead;
    behind = λ looks.
        stepped.is_in.sees (sym (ap (λ z. z.looks) same) ∙ looks) ∙ sym (sees.behind looks);
  })

  pub determinized : LeadsOn table entries new.intervals stepped.is_in.state class to
  determinized =
      cached table entries new.intervals stepped.before now here match_flag first
      stepped.starts stepped.reported stepped.is_in.state class to stepped.again alike
      (λ there sees h p is. stepped.suffice h p there is) stepped.tells stepped.is_first
      stepped.is_in.ways stepped.is_in.suits next is_next ways is_match_flag searching
      (λ looks there seen. same_context_of new.intervals.boundaries there.after here.after
      (seen ∙ sym is_class) (is_dfa.intervals.contexts looks) ∙ sym (before looks))
