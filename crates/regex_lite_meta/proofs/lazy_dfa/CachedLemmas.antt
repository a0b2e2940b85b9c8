-- A step that a search has taken may be cached as a transition.
use Rattle.regex_lite_meta.proofs.Common.{◌≡◌, ℕ, zero, suc, ◌+◌, ◌<◌, ◌≤◌, Bool, true, false, ◌⊎◌}
use Rattle.regex_lite_meta.proofs.Common.{List, [], ◌∷◌, ◌==◌, slice_get, slice_index, slice_set}
use Rattle.regex_lite_meta.proofs.Common.{Some, None, Option, sym, refl, ap, ◌∙◌, subst, inl, inr}
use Rattle.regex_lite_meta.proofs.Common.{arith, nat_tests, Text, AreAlike, Thread, best_of}
use Rattle.regex_lite_meta.proofs.Common.{IsComing, Best, IsHere, Cache, Here, Automaton}
use Rattle.regex_lite_meta.proofs.Common.{classes_in, unknown, reported_by, threads_of, ways_of}
use Rattle.regex_lite_meta.proofs.Common.{best_left, searching_after, Suits, LeadsOn, FitsTable}
use Rattle.regex_lite_meta.proofs.Common.{IsDfaOf, Extends, Intervals, class_of, context_of}
use Rattle.regex_lite_meta.proofs.Common.{IfSome, IsFirstStart}
use Rattle.regex_lite_engine.specs.Graph.Places.{Place}
use Rattle.regex_lite_meta.specs.LazyDfa.Automaton.{ReadsAtMost, State, Sees, began, match_flag_of}
use Rattle.regex_lite_meta.specs.LazyDfa.Automaton.{first_left, match_start_of, reported_if}
use Rattle.regex_lite_meta.specs.LazyDfa.Determinizing.{NoneBegan}
use Rattle.regex_lite_meta.proofs.lazy_dfa.RestartLemmas.{coming_forgotten, none_again}
use Rattle.regex_lite_meta.proofs.lazy_dfa.RestartLemmas.{own_relabelled}
use Rattle.std.proofs.lemmas.Bool.{cases_eq}
use Rattle.regex_lite_engine.specs.Pikevm.Again.{relabelled, all_relabelled, best_again}
use Rattle.regex_lite_engine.specs.Search.ThreadStarts.{Reported, TellsStart, IsReported}
use Rattle.regex_lite_engine.specs.Search.Starts.{AreStartsAt}
use Rattle.regex_lite_engine.specs.declared.search.patterns.Start.{Start}
use Rattle.regex_lite_meta.specs.LazyDfa.Intervals.{AreIntervalsFor}
use Rattle.regex_lite_engine.specs.Pikevm.Searching.{StepsAgain}
use Rattle.regex_lite_syntax.proofs.OptionLemmas.{not_there, same_some}

eq_same : (a b : ℕ) → a ≡ b → (a == b) ≡ true
eq_same a b e = grind (arith, nat_tests)

eq_other : (a b : ℕ) → (a ≡ b → ⊥) → (a == b) ≡ false
eq_other a b d = grind (arith, nat_tests)

module _ (first i : ℕ) where
  abbrev tell : Reported → Reported
  tell reported = reported_by i (match_start_of first reported)

  reported_anew : (ts : List Thread) → all_relabelled tell ts ≡ threads_of i (ways_of first ts)
  reported_anew [] = refl
  reported_anew (t ∷ ts) = ap (λ (more : List Thread). relabelled tell t ∷ more) (reported_anew ts)

  best_anew : (at : ℕ) (match_flag : Bool) (found before : Best)
      → best_again tell at match_flag found before ≡ best_left
      (match_flag_of first match_flag found) i at before
  best_anew at false found before = refl
  best_anew at true None before = refl
  best_anew at true (Some found) before = refl

own_start : (first i at at' : ℕ) (ts : List Thread) (reported : Option ℕ) → IsFirstStart first at ts
    → (ways_of first ts ≡ [] → i ≡ at') → IsReported reported at → IsReported
    (reported_if (began first reported) i) at'
own_start first i at at' ts None is_first own is = tt
own_start first i at at' [] (Some s) is_first own is =
    subst (λ b. IsReported (reported_if b i) at') (sym (eq_same s first (is ∙ sym is_first)))
    (own refl)
own_start first i at at' (t ∷ ts) (Some s) is_first own is =
    subst (λ b. IsReported (reported_if b i) at')
    (sym (eq_other s first (λ e. is_first (sym e ∙ is)))) tt

own_reported : (first i at at' : ℕ) (ts : List Thread) (reported : Reported) (number : ℕ)
    → IsFirstStart first at ts
    → (ways_of first ts ≡ [] → i ≡ at') → TellsStart reported at number
    → TellsStart (tell first i reported) at' number
own_reported first i at at' ts reported number is_first own tells = record {
  start_reported = own_start first i at at' ts reported.at is_first own tells.start_reported;
  number_reported = tells.number_reported;
}

same_found : (b : Bool) {x y : Best} → Suits b y → Suits b x → x ≡ None → y ≡ None
same_found true sy sx e = sy
same_found false sy sx e = absurd (sx e)

-- the first start after a step at the offset is that of before, or the offset, if no thread began
-- there before the step, and there is no match
abbrev pub IsNextStart : (restarts : Bool) → (first at next : ℕ) → (before now : Best) → List Thread
    → Type 0
IsNextStart false first at next before now threads = next ≡ first
IsNextStart true first at next before now threads =
    (next ≡ at) × (before ≡ None) × (now ≡ None) × NoneBegan at threads

module _ (table : List (Place ℕ)) (entries : List ℕ) (intervals : Intervals) {S : Type 0}
    (cache cache' : Cache S) (here : Here) (match_flag : Bool) (first : ℕ) (starts : List Start)
    (reported : ℕ → Reported)
    (x : State) (class : ℕ) (y : State)
    (again : StepsAgain table starts here reported cache cache' match_flag)
    (alike : (there : Here) → Sees intervals x.before class there
    → AreAlike table entries here there)
    (suffice : (there : Here) → Sees intervals x.before class there → (h : Text) (p : ℕ)
    → IsHere h p there → AreStartsAt table h entries p starts)
    (tells : (number : ℕ) → TellsStart (reported number) here.at number)
    (is_first : IsFirstStart first here.at cache.walk.memory.threads)
    (ways : ways_of first cache.walk.memory.threads ≡ x.ways)
    (suits : Suits x.searching (best_of cache.best))
    (next : ℕ)
    (is_next : IsNextStart y.restarts first here.at next (best_of cache.best)
    (best_of cache'.best) cache.walk.memory.threads)
    (next_ways : y.ways ≡ ways_of next cache'.walk.memory.threads)
    (next_match_flag : y.match_flag ≡ match_flag_of first match_flag (best_of cache'.best)) where
  leads_there : (there : Here) → Sees intervals x.before class there → (i : ℕ)
      → (ways_of first cache.walk.memory.threads ≡ [] → i ≡ there.at) → (best : Best)
      → Suits x.searching best →
      (h : Text) (p low high : ℕ) → IsHere h p there → low ≤ p → p ≤ high
      → IsComing table h entries low high p
      (threads_of i (ways_of first cache.walk.memory.threads)) best →
      IsComing table h entries low high (p + 1)
      (threads_of i (ways_of first cache'.walk.memory.threads))
      (best_left (match_flag_of first match_flag (best_of cache'.best)) i there.at best)
  leads_there there sees i own best suits' h p low high is from to coming =
      subst (λ z. IsComing table h entries low high (p + 1)
      (threads_of i (ways_of first cache'.walk.memory.threads)) z)
      (best_anew first i there.at match_flag (best_of cache'.best) best)
      (subst (λ z. IsComing table h entries low high (p + 1) z
      (best_again (tell first i) there.at match_flag (best_of cache'.best) best))
      (reported_anew first i cache'.walk.memory.threads)
      (again (tell first i) there best (λ number. own_reported first i here.at
      there.at cache.walk.memory.threads (reported number) number is_first own (tells number))
      (same_found x.searching suits suits') (same_found x.searching suits' suits) h entries p low
      high (alike there sees) is from to (suffice there sees h p is)
      (subst (λ z. IsComing table h entries low high p z best)
      (sym (reported_anew first i cache.walk.memory.threads)) coming)))

  restarts_there : NoneBegan here.at cache.walk.memory.threads → best_of cache'.best ≡ None
      → (there : Here) → Sees intervals x.before class there → (i : ℕ) → (best : Best)
      → Suits x.searching best → (h : Text) (p low high : ℕ) → IsHere h p there → low ≤ p
      → p ≤ high
      → IsComing table h entries low high p
      (threads_of i (ways_of first cache.walk.memory.threads)) best →
      IsComing table h entries low high (p + 1)
      (threads_of there.at (ways_of here.at cache'.walk.memory.threads))
      (best_left (match_flag_of first match_flag (best_of cache'.best)) i there.at best)
  restarts_there none_began none there sees i best suits' h p low high is from to coming =
      subst (λ z. IsComing table h entries low high (p + 1)
      (threads_of there.at (ways_of here.at cache'.walk.memory.threads)) z)
      (none_again (tell here.at there.at) first i there.at match_flag (best_of cache'.best) best
      none) (subst (λ z. IsComing table h entries low high (p + 1) z
      (best_again (tell here.at there.at) there.at match_flag (best_of cache'.best) best))
      (reported_anew here.at there.at cache'.walk.memory.threads)
      (again (tell here.at there.at) there best
      (λ number. own_relabelled here.at there.at number (reported number) (tells number))
      (same_found x.searching suits suits') (same_found x.searching suits' suits) h entries p low
      high (alike there sees) is from to (suffice there sees h p is)
      (coming_forgotten table entries h p first i here.at there.at low high
      cache.walk.memory.threads best none_began coming)))

  -- whatever is the first start then
  leads_to : (there : Here) → Sees intervals x.before class there → (i : ℕ)
      → (ways_of first cache.walk.memory.threads ≡ [] → i ≡ there.at) → (best : Best)
      → Suits x.searching best →
      (h : Text) (p low high : ℕ) → IsHere h p there → low ≤ p → p ≤ high
      → IsComing table h entries low high p
      (threads_of i (ways_of first cache.walk.memory.threads)) best →
      IsComing table h entries low high (p + 1)
      (threads_of (first_left y.restarts i there.at)
      (ways_of next cache'.walk.memory.threads))
      (best_left (match_flag_of first match_flag (best_of cache'.best)) i there.at best)
  leads_to there sees i own best suits' h p low high is from to coming =
      by_restart y.restarts is_next
    where
      by_restart : (restarts : Bool)
          → IsNextStart restarts first here.at next (best_of cache.best) (best_of cache'.best)
          cache.walk.memory.threads →
          IsComing table h entries low high (p + 1)
          (threads_of (first_left restarts i there.at)
          (ways_of next cache'.walk.memory.threads))
          (best_left (match_flag_of first match_flag (best_of cache'.best)) i there.at best)
      by_restart false same =
          subst (λ z. IsComing table h entries low high (p + 1)
          (threads_of i (ways_of z cache'.walk.memory.threads))
          (best_left (match_flag_of first match_flag (best_of cache'.best)) i there.at best))
          (sym same) (leads_there there sees i own best suits' h p low high is from to coming)
      by_restart true (same, free, none, none_began) =
          subst (λ z. IsComing table h entries low high (p + 1)
          (threads_of there.at (ways_of z cache'.walk.memory.threads))
          (best_left (match_flag_of first match_flag (best_of cache'.best)) i there.at best))
          (sym same) (restarts_there none_began none there sees i best suits' h p low high is from
          to coming)

  pub cached : y.searching ≡ searching_after y.match_flag x.searching
      → (intervals.looks ≡ true → (there : Here) → class_of intervals.boundaries there.after ≡ class
      → context_of there.after ≡ y.before) →
      LeadsOn table entries intervals x class y
  cached searching before = record {
    on = λ there sees i own best suits' h p low high is from to coming.
        subst (λ match_flag. IsComing table h entries low high (p + 1)
        (threads_of (first_left y.restarts i there.at) y.ways)
        (best_left match_flag i there.at best)) (sym next_match_flag)
        (subst (λ ws. IsComing table h entries low high (p + 1)
        (threads_of (first_left y.restarts i there.at) ws)
        (best_left (match_flag_of first match_flag (best_of cache'.best)) i there.at best))
        (sym next_ways) (leads_to there sees i (λ e. own (sym ways ∙ e)) best suits' h p low high is
        from to (subst (λ ws. IsComing table h entries low high p (threads_of i ws) best)
        (sym ways) coming)));
    searching = searching;
    before = before;
  }

-- lists of which one element is set
set_cases : {A : Type 0} (xs : List A) (x : ℕ) (v : A) (k : ℕ) (w : A)
    → slice_get (slice_set xs x v) k ≡ Some w → ((k ≡ x) × (w ≡ v)) ⊎ (slice_get xs k ≡ Some w)
set_cases [] x v k w at = inr at
set_cases (z ∷ xs) zero v zero w at = inl (refl, sym (same_some at))
set_cases (z ∷ xs) zero v (suc k) w at = inr at
set_cases (z ∷ xs) (suc x) v zero w at = inr at
set_cases (z ∷ xs) (suc x) v (suc k) w at = elim (set_cases xs x v k w at) [
  | inl (e, f) ↦ inl (ap suc e, f)
  | inr rest ↦ inr rest
]

-- of numbers, what is read there is the new one or the old one
index_cases : (xs : List ℕ) (x v k : ℕ)
    → ((k ≡ x) × (slice_index (slice_set xs x v) k ≡ v))
    ⊎ (slice_index (slice_set xs x v) k ≡ slice_index xs k)
index_cases [] x v k = inr refl
index_cases (z ∷ xs) zero v zero = inl (refl, refl)
index_cases (z ∷ xs) zero v (suc k) = inr refl
index_cases (z ∷ xs) (suc x) v zero = inr refl
index_cases (z ∷ xs) (suc x) v (suc k) = elim (index_cases xs x v k) [
  | inl (e, f) ↦ inl (ap suc e, f)
  | inr rest ↦ inr rest
]

pub set_there : {A : Type 0} (xs : List A) (x : ℕ) (was v : A) → slice_get xs x ≡ Some was
    → slice_get (slice_set xs x v) x ≡ Some v
set_there [] x was v at = absurd (not_there at)
set_there (z ∷ xs) zero was v at = refl
set_there (z ∷ xs) (suc x) was v at = set_there xs x was v at

pub set_other : {A : Type 0} (xs : List A) (x : ℕ) (v : A) (k : ℕ) (w : A) → (k ≡ x → ⊥)
    → slice_get xs k ≡ Some w → slice_get (slice_set xs x v) k ≡ Some w
set_other [] x v k w other at = at
set_other (z ∷ xs) zero v zero w other at = absurd (other refl)
set_other (z ∷ xs) zero v (suc k) w other at = at
set_other (z ∷ xs) (suc x) v zero w other at = at
set_other (z ∷ xs) (suc x) v (suc k) w other at = set_other xs x v k w (λ e. other (ap suc e)) at

-- what a state leads to doesn't rest on its cached transitions
led_from : (table : List (Place ℕ)) (entries : List ℕ) (intervals : Intervals) (x y : State)
    (class : ℕ) (next : List ℕ)
    → LeadsOn table entries intervals x class y →
    LeadsOn table entries intervals (record x { next = next }) class y
led_from table entries intervals x y class next leads =
    record { on = leads.on; searching = leads.searching; before = leads.before }

led_to : (table : List (Place ℕ)) (entries : List ℕ) (intervals : Intervals) (x y : State)
    (class : ℕ) (next : List ℕ)
    → LeadsOn table entries intervals x class y →
    LeadsOn table entries intervals x class (record y { next = next })
led_to table entries intervals x y class next leads =
    record { on = leads.on; searching = leads.searching; before = leads.before }

module _ (table : List (Place ℕ)) (entries : List ℕ) where
  -- with more states
  pub still_is_dfa : (old new : Automaton) → IsDfaOf table entries old → Extends old new
      → FitsTable table entries old.pending → IsDfaOf table entries new
  still_is_dfa old new is_dfa extends fits = record {
    intervals = subst (λ z. AreIntervalsFor table entries z) (sym extends.intervals)
        is_dfa.intervals;
    reach = subst (λ z. IfSome z (ReadsAtMost table entries)) (sym extends.reach) is_dfa.reach;
    leads = λ x from class at inside known.
        by_age x from class at inside known (slice_get old.states x) refl;
    fit = λ x state at. fit_by_age x state at (slice_get old.states x) refl;
  }
    where
      own : (class : ℕ) → class < classes_in new.intervals → class < classes_in old.intervals
      own class inside = subst (λ z. class < classes_in z) extends.intervals inside

      by_age : (x : ℕ) (from : State) (class : ℕ) → slice_get new.states x ≡ Some from
          → class < classes_in new.intervals → (slice_index from.next class ≡ unknown → ⊥)
          → (o : Option State)
          → slice_get old.states x ≡ o →
          (to : State) × (slice_get new.states (slice_index from.next class) ≡ Some to)
          × LeadsOn table entries new.intervals from class to
      by_age x from class at inside known (Some was) old_at =
          let same : was ≡ from = same_some (sym (extends.kept x was old_at) ∙ at) in
          let led =
          is_dfa.leads x from class (old_at ∙ ap Some same) (own class inside) known in (
            led.0,
            extends.kept (slice_index from.next class) led.0 led.1,
            subst (λ z. LeadsOn table entries z from class led.0)
                (sym extends.intervals) led.2,
          )
      by_age x from class at inside known None old_at =
          absurd
          (known ((extends.fresh x from at (λ e. not_there (sym old_at ∙ e))).1 class
          (own class inside)))

      fit_by_age : (x : ℕ) (state : State) → slice_get new.states x ≡ Some state
          → (o : Option State) → slice_get old.states x ≡ o
          → FitsTable table entries state.ways
      fit_by_age x state at (Some was) old_at =
          let same : was ≡ state = same_some (sym (extends.kept x was old_at) ∙ at) in
          is_dfa.fit x state (old_at ∙ ap Some same)
      fit_by_age x state at None old_at =
          subst (FitsTable table entries)
          (sym (extends.fresh x state at (λ e. not_there (sym old_at ∙ e))).0) fits

  -- with one transition more
  pub is_dfa_more : (old : Automaton) → IsDfaOf table entries old
      → (x : ℕ) (from : State) (class y : ℕ) (to : State) → slice_get old.states x ≡ Some from
      → slice_get old.states y ≡ Some to →
      LeadsOn table entries old.intervals from class to →
      IsDfaOf table entries
      (record old {
        states = slice_set old.states x (record from { next = slice_set from.next class y });
      })
  is_dfa_more old is_dfa x from class y to from_at to_at leads = record {
    intervals = is_dfa.intervals;
    reach = is_dfa.reach;
    leads = λ k was c at inside known.
        led k was c (set_cases old.states x now k was at) inside known;
    fit = λ k state at. fitting k state (set_cases old.states x now k state at);
  }
    where
      now : State
      now = record from { next = slice_set from.next class y }

      states : List State
      states = slice_set old.states x now

      fitting : (k : ℕ) (state : State)
          → ((k ≡ x) × (state ≡ now)) ⊎ (slice_get old.states k ≡ Some state)
          → FitsTable table entries state.ways
      fitting k state (inl (e, f)) =
          subst (λ (s : State). FitsTable table entries s.ways) (sym f)
          (is_dfa.fit x from from_at)
      fitting k state (inr at) = is_dfa.fit k state at

      Led : State → ℕ → ℕ → Type 0
      Led was c z =
          (to : State) × (slice_get states z ≡ Some to)
          × LeadsOn table entries old.intervals was c to

      arrived : (was : State) (c z : ℕ) (there : State) → slice_get old.states z ≡ Some there
          → LeadsOn table entries old.intervals was c there → Led was c z
      arrived was c z there at leads = elim (cases_eq z x) [
        | inl same ↦
            let own : there ≡ from =
            same_some (sym at ∙ ap (slice_get old.states) same ∙ from_at) in (
              now,
              ap (slice_get states) same ∙ set_there old.states x from now from_at,
              led_to table entries old.intervals was from c
                  (slice_set from.next class y) (subst
                  (λ s. LeadsOn table entries old.intervals was c s) own leads),
            )
        | inr other ↦ (there, set_other old.states x now z there other at, leads)
      ]

      led : (k : ℕ) (was : State) (c : ℕ)
          → ((k ≡ x) × (was ≡ now)) ⊎ (slice_get old.states k ≡ Some was)
          → c < classes_in old.intervals
          → (slice_index was.next c ≡ unknown → ⊥) → Led was c (slice_index was.next c)
      led k was c (inr at) inside known =
          let there = is_dfa.leads k was c at inside known in
          arrived was c (slice_index was.next c) there.0 there.1 there.2
      led k was c (inl (e, f)) inside known =
          subst (λ (s : State). Led s c (slice_index s.next c)) (sym f)
          (own (index_cases from.next class y c)
          (subst (λ (s : State). slice_index s.next c ≡ unknown → ⊥) f known))
        where
          own : ((c ≡ class) × (slice_index now.next c ≡ y))
              ⊎ (slice_index now.next c ≡ slice_index from.next c)
              → (slice_index now.next c ≡ unknown → ⊥) → Led now c (slice_index now.next c)
          own (inl (ce, ye)) known =
              subst (λ z. Led now c z) (sym ye) (subst (λ c'. Led now c' y) (sym ce)
              (arrived now class y to to_at (led_from table entries old.intervals
              from to class (slice_set from.next class y) leads)))
          own (inr same) known =
              let there = is_dfa.leads x from c from_at inside (λ e. known (same ∙ e)) in
              subst (λ z. Led now c z) (sym same)
              (arrived now c (slice_index from.next c) there.0 there.1
              (led_from table entries old.intervals from there.0 c
              (slice_set from.next class y) there.2))
