-- Where walks are listed, no walk visits a place twice at one position.
use Rattle.regex_lite_engine.proofs.Common.{◌≡◌, ℕ, zero, suc, List, [], ◌∷◌, ◌++◌, slice_get, Some}
use Rattle.regex_lite_engine.proofs.Common.{None, sym, refl, ap, ◌∙◌, subst, Text, Arrow, complete}
use Rattle.regex_lite_engine.proofs.Common.{with_arrows, arrived, arrow_taken, step_from, step}
use Rattle.regex_lite_engine.proofs.Common.{Leads, NoneTwice, Entry}
use Rattle.regex_lite_syntax.proofs.ListLemmas.{no_last}
use Rattle.regex_lite_engine.specs.Graph.Places.{Place}
use Rattle.regex_lite_engine.proofs.laws.LeadsLemmas.{leads_append}
use Rattle.regex_lite_engine.proofs.laws.list.ListedLemmas.{Listed, ListedBy, completed}
use Rattle.regex_lite_engine.proofs.laws.list.ListedLemmas.{branching, over_all, blocked, fitting}
use Rattle.regex_lite_syntax.proofs.OptionLemmas.{same_some}

module _ {A : Type 0} (haystack : Text) (place : A → Place A) (end : A)
  where
    -- a walk that leads back to where it begins has no arrow
    abbrev NoLoop : A × ℕ → Type 0
    NoLoop pair = (ks : List ℕ) → Leads (A × ℕ) (step haystack place) pair ks pair → ks ≡ []

    -- a loop, with its first arrow last
    turned : (pair next : A × ℕ) (k : ℕ) (ks : List ℕ) → step haystack place pair k ≡ Some next
        → NoLoop next → Leads (A × ℕ) (step haystack place) next ks pair → ⊥
    turned pair next k ks s none along =
        let on = leads_append (step haystack place) ks (k ∷ []) next pair next along
        (next, s, refl) in
        no_last ks k (sym (none (ks ++ k ∷ []) on))

    pub next_of : (a : A) (i k : ℕ) (arrows : List (Arrow A)) (next : A × ℕ)
        → place a ≡ with_arrows arrows
        → step haystack place (a, i) k ≡ Some next
        → arrow_taken haystack i (slice_get arrows k) ≡ Some next
    next_of a i k arrows next e s = subst (λ p. step_from haystack p i k ≡ Some next) e s

    pub complete_stays : (a : A) (i k : ℕ) (next : A × ℕ) → place a ≡ complete
        → step haystack place (a, i) k ≡ Some next → ⊥
    complete_stays a i k next e s =
        let none : None ≡ Some next = subst (λ p. step_from haystack p i k ≡ Some next) e s in
        cc

    -- no walk comes back to where it has been
    abbrev NoLoopFrom : A × ℕ → Type 0
    NoLoopFrom pair =
        (us : List ℕ) (m : A × ℕ) → Leads (A × ℕ) (step haystack place) pair us m → NoLoop m

    -- none does from a place, where none does from those that its arrows lead to
    module _ (a : A) (i : ℕ) (arrows : List (Arrow A)) (e : place a ≡ with_arrows arrows)
        (none : (k : ℕ) (next : A × ℕ) → arrow_taken haystack i (slice_get arrows k) ≡ Some next
        → NoLoopFrom next) where
      no_loop_here : NoLoop (a, i)
      no_loop_here [] along = refl
      no_loop_here (k ∷ ks) (next, s, along) =
          let later = none k next (next_of a i k arrows next e s) in
          absurd (turned (a, i) next k ks s (later [] next refl) along)

      no_loop_later : NoLoopFrom (a, i)
      no_loop_later [] m along = subst NoLoop along no_loop_here
      no_loop_later (k ∷ us) m (next, s, along) =
          none k next (next_of a i k arrows next e s) us m along

    mutual
      no_loop_from : {a : A} {i : ℕ} {list : List Entry} → Listed haystack place end a i list
          → NoLoopFrom (a, i)
      no_loop_from {a} {i} (completed here e same) = on
        where
          stays : NoLoop (a, i)
          stays [] along = refl
          stays (k ∷ ks) (next, s, along) = absurd (complete_stays a i k next e s)

          on : NoLoopFrom (a, i)
          on [] m along = subst NoLoop along stays
          on (k ∷ us) m (next, s, along) = absurd (complete_stays a i k next e s)
      no_loop_from {a} {i} (branching arrows e listed) =
          no_loop_later a i arrows e (no_loop_from_by listed)

      no_loop_from_by : {arrows : List (Arrow A)} {i : ℕ} {list : List Entry}
          → ListedBy haystack place end arrows i list → (k : ℕ) (next : A × ℕ)
          → arrow_taken haystack i (slice_get arrows k) ≡ Some next → NoLoopFrom next
      no_loop_from_by (over_all none) k next e = absurd cc
      no_loop_from_by (blocked {arrow} gone listed) zero next e =
          let two : None ≡ Some next = sym (ap (arrived arrow.to) gone) ∙ e in
          absurd cc
      no_loop_from_by (blocked gone listed) (suc k) next e = no_loop_from_by listed k next e
      no_loop_from_by (fitting {arrow} j here there fits listed others all) zero next e =
          let same : (arrow.to, j) ≡ next = same_some (sym (ap (arrived arrow.to) fits) ∙ e) in
          subst NoLoopFrom same (no_loop_from listed)
      no_loop_from_by (fitting j here there fits listed others all) (suc k) next e =
          no_loop_from_by others k next e

    -- where the walks are listed, each is one on which no place comes twice at one position
    pub none_twice : {a : A} {i : ℕ} {list : List Entry} → Listed haystack place end a i list
        → (ks : List ℕ) → NoneTwice (A × ℕ) (step haystack place) (a, i) ks
    none_twice listed ks us vs ws m e first loop = no_loop_from listed us m first vs loop
