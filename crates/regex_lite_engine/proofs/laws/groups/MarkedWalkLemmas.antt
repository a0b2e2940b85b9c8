-- Walks with few arrows that lead to the end, and what they mark.
use Rattle.regex_lite_engine.proofs.Common.{◌≡◌, ℕ, zero, suc, ◌<◌, Bool, true, false, List, []}
use Rattle.regex_lite_engine.proofs.Common.{◌∷◌, map, length, slice_get, Some, None, Option}
use Rattle.regex_lite_engine.proofs.Common.{option_map, sym, refl, ap, ◌∙◌, subst, arith}
use Rattle.regex_lite_engine.proofs.Common.{slice_get-map, Text, Arrow, complete, with_arrows}
use Rattle.regex_lite_engine.proofs.Common.{taken, go, go_marking, choice, arrived, arrow_taken}
use Rattle.regex_lite_engine.proofs.Common.{step_from, step, Leads, Marks, marked, over}
use Rattle.regex_lite_engine.proofs.Common.{mark_of_arrow, mark_of, marks_along}
use Rattle.regex_lite_engine.specs.Graph.Places.{Place}
use Rattle.regex_lite_engine.proofs.laws.list.EntryLemmas.{over_unmarked}
use Rattle.regex_lite_syntax.proofs.OptionLemmas.{same_some}

-- each walk of fewer than n arrows from the place to the end has these marks and this end
pub record Each {A : Type 0} (haystack : Text) (place : A → Place A) (end : A) (n : ℕ) (a : A)
    (i : ℕ) (P : Marks → ℕ → Type 0) : Type 0 where
  pub of : (ks : List ℕ) (j : ℕ) → length ks < n
      → Leads (A × ℕ) (step haystack place) (a, i) ks (end, j)
      → P (marks_along haystack place (Some (a, i)) ks) j

arrived_at : {A : Type 0} (a : A) (o : Option ℕ) (next : A × ℕ) → arrived a o ≡ Some next
    → (o ≡ Some next.1) × ((a, next.1) ≡ next)
arrived_at a None next e = absurd cc
arrived_at {A} a (Some j) next e =
    let same : (a, j) ≡ next = same_some e in
    (ap (λ (p : A × ℕ). Some p.1) same, paired (ap (λ (p : A × ℕ). p.0) same))
  where
    paired : a ≡ next.0 → (a, next.1) ≡ next
    paired e = ap (λ (b : A). (b, next.1)) e

unmarked : (P : Marks → ℕ → Type 0) (i : ℕ) (marks : Marks) (j : ℕ) → P marks j
    → P (over marks (marked None i)) j
unmarked P i marks j p = subst (λ m. P m j) (sym (over_unmarked marks i)) p

module _ {A : Type 0} {haystack : Text} {place : A → Place A} {end : A}
    (final : place end ≡ complete) where
  pub fewer : (n : ℕ) (a : A) (i : ℕ) (P : Marks → ℕ → Type 0)
      → Each haystack place end (suc n) a i P → Each haystack place end n a i P
  fewer n a i P each = record { of = λ ks j few along. each.of ks j (omega (arith, few)) along }

  pub no_walk : (a : A) (i : ℕ) (P : Marks → ℕ → Type 0) → Each haystack place end zero a i P
  no_walk a i P = record { of = λ ks j few along. absurd (omega (arith, few)) }

  pub weaken : (n : ℕ) (a : A) (i : ℕ) (P Q : Marks → ℕ → Type 0)
      → ((marks : Marks) (j : ℕ) → P marks j → Q marks j)
      → Each haystack place end n a i P → Each haystack place end n a i Q
  weaken n a i P Q f each = record {
    of = λ ks j few along.
        f (marks_along haystack place (Some (a, i)) ks) j (each.of ks j few along);
  }

  pub by_arrows : (n : ℕ) (a : A) (i : ℕ) (P : Marks → ℕ → Type 0) (arrows : List (Arrow A))
      → place a ≡ with_arrows arrows
      → ((k : ℕ) (next : A × ℕ) → arrow_taken haystack i (slice_get arrows k) ≡ Some next
      → Each haystack place end n next.0 next.1
      (λ marks j. P (over marks (marked (mark_of_arrow (slice_get arrows k)) i)) j))
      → Each haystack place end (suc n) a i P
  by_arrows n a i P arrows e each = record { of = each_walk }
    where
      each_walk : (ks : List ℕ) (j : ℕ) → length ks < suc n
          → Leads (A × ℕ) (step haystack place) (a, i) ks (end, j)
          → P (marks_along haystack place (Some (a, i)) ks) j
      each_walk [] j few same =
          let here : a ≡ end = ap (λ p. p.0) same in
          let two : complete ≡ with_arrows arrows = sym final ∙ ap place (sym here) ∙ e in
          absurd cc
      each_walk (k ∷ ks) j few (next, s, along) =
          let fits : arrow_taken haystack i (slice_get arrows k) ≡ Some next
          = subst (λ p. step_from haystack p i k ≡ Some next) e s in
          let on = (each k next fits).of ks j (omega (arith, few)) along in
          let later = marks_along haystack place (Some next) ks in
          let marks : over later (marked (mark_of_arrow (slice_get arrows k)) i)
          ≡ marks_along haystack place (Some (a, i)) (k ∷ ks)
          = ap (λ p. over later (marked (mark_of p k) i)) (sym e)
          ∙ ap (λ o. over (marks_along haystack place o ks) (marked (mark_of (place a) k) i))
          (sym s) in
          subst (λ m. P m j) marks on

  -- by the only arrow
  pub by_one : (n : ℕ) (a : A) (i : ℕ) (P : Marks → ℕ → Type 0) (arrow : Arrow A)
      → place a ≡ with_arrows (arrow ∷ [])
      → ((j : ℕ) → taken haystack arrow.condition i ≡ Some j
      → Each haystack place end n arrow.to j
      (λ marks k. P (over marks (marked arrow.mark i)) k))
      → Each haystack place end n a i P
  by_one n a i P arrow e each =
      fewer n a i P (by_arrows n a i P (arrow ∷ []) e by_number)
    where
      by_number : (k : ℕ) (next : A × ℕ)
          → arrow_taken haystack i (slice_get (arrow ∷ []) k) ≡ Some next
          → Each haystack place end n next.0 next.1
          (λ marks j. P (over marks (marked (mark_of_arrow (slice_get (arrow ∷ []) k)) i)) j)
      by_number zero next s =
          let here = arrived_at arrow.to (taken haystack arrow.condition i) next s in
          subst (λ (p : A × ℕ). Each haystack place end n p.0 p.1
          (λ marks j. P (over marks (marked arrow.mark i)) j)) here.1 (each next.1 here.0)
      by_number (suc k) next s = absurd cc

  -- by the only arrow, which marks nothing
  pub by_test : (n : ℕ) (a : A) (i : ℕ) (P : Marks → ℕ → Type 0) (arrow : Arrow A)
      → arrow.mark ≡ None → place a ≡ with_arrows (arrow ∷ [])
      → ((j : ℕ) → taken haystack arrow.condition i ≡ Some j
      → Each haystack place end n arrow.to j P)
      → Each haystack place end n a i P
  by_test n a i P arrow plain e each =
      by_one n a i P arrow e (λ j fits. (
      let Q = λ (marks : Marks) (k : ℕ). P (over marks (marked arrow.mark i)) k in
      weaken n arrow.to j P Q (λ marks k p. (
      let q = unmarked P i marks k p in
      subst (λ o. P (over marks (marked o i)) k) (sym plain) q)) (each j fits)))

  pub by_go : (n : ℕ) (a b : A) (i : ℕ) (P : Marks → ℕ → Type 0) → place a ≡ with_arrows (go b ∷ [])
      → Each haystack place end n b i P → Each haystack place end n a i P
  by_go n a b i P e each =
      by_test n a i P (go b) refl e (λ j fits. (
      let same : i ≡ j = same_some fits in
      subst (λ k. Each haystack place end n b k P) same each))

  pub by_mark : (n : ℕ) (a b : A) (i slot : ℕ) (P : Marks → ℕ → Type 0)
      → place a ≡ with_arrows (go_marking slot b ∷ [])
      → Each haystack place end n b i (λ marks j. P (over marks (marked (Some slot) i)) j)
      → Each haystack place end n a i P
  by_mark n a b i slot P e each =
      by_one n a i P (go_marking slot b) e (λ j fits. (
      let same : i ≡ j = same_some fits in
      subst (λ k. Each haystack place end n b k
      (λ marks l. P (over marks (marked (Some slot) i)) l)) same each))

  -- by one of the places that are led to freely
  pub by_branches : (n : ℕ) (a : A) (i : ℕ) (P : Marks → ℕ → Type 0) (firsts : List A)
      → place a ≡ with_arrows (map go firsts)
      → ((k : ℕ) (first : A) → slice_get firsts k ≡ Some first
      → Each haystack place end n first i P)
      → Each haystack place end (suc n) a i P
  by_branches n a i P firsts e each =
      by_arrows n a i P (map go firsts) e (λ k next s.
      by_number k next (slice_get (map go firsts) k)
      (slice_get-map go firsts k) s)
    where
      to_first : (k : ℕ) (next : A × ℕ) (o : Option A) → slice_get firsts k ≡ o
          → arrow_taken haystack i (option_map go o) ≡ Some next
          → Each haystack place end n next.0 next.1
          (λ marks j. P (over marks (marked (mark_of_arrow (option_map go o)) i)) j)
      to_first k next None there s = absurd cc
      to_first k next (Some first) there s =
          let same : (first, i) ≡ next = same_some s in
          let Q = λ (marks : Marks) (j : ℕ). P (over marks (marked None i)) j in
          subst (λ (p : A × ℕ). Each haystack place end n p.0 p.1 Q) same
          (weaken n first i P Q (λ marks j p. unmarked P i marks j p) (each k first there))

      by_number : (k : ℕ) (next : A × ℕ) (o : Option (Arrow A))
          → o ≡ option_map go (slice_get firsts k) → arrow_taken haystack i o ≡ Some next
          → Each haystack place end n next.0 next.1
          (λ marks j. P (over marks (marked (mark_of_arrow o) i)) j)
      by_number k next o e s =
          subst (λ z. Each haystack place end n next.0 next.1
          (λ marks j. P (over marks (marked (mark_of_arrow z) i)) j)) (sym e)
          (to_first k next (slice_get firsts k) refl
          (subst (λ z. arrow_taken haystack i z ≡ Some next) e s))

  by_two : (n : ℕ) (a first second : A) (i : ℕ) (P : Marks → ℕ → Type 0)
      → place a ≡ with_arrows (go first ∷ go second ∷ []) → Each haystack place end n first i P
      → Each haystack place end n second i P → Each haystack place end (suc n) a i P
  by_two n a first second i P e one two =
      by_branches n a i P (first ∷ second ∷ []) e by_number
    where
      by_number : (k : ℕ) (b : A) → slice_get (first ∷ second ∷ []) k ≡ Some b
          → Each haystack place end n b i P
      by_number zero b e = subst (λ z. Each haystack place end n z i P) (same_some e) one
      by_number (suc zero) b e = subst (λ z. Each haystack place end n z i P) (same_some e) two
      by_number (suc (suc k)) b e = absurd cc

  pub by_choice : (n : ℕ) (greedy : Bool) (a body other : A) (i : ℕ) (P : Marks → ℕ → Type 0)
      → place a ≡ choice greedy body other → Each haystack place end n body i P
      → Each haystack place end n other i P → Each haystack place end (suc n) a i P
  by_choice n true a body other i P e one two = by_two n a body other i P e one two
  by_choice n false a body other i P e one two = by_two n a other body i P e two one
