-- What a walk keeps true when it comes to a match, or passes over a node that it has entered
-- before.
use Rattle.regex_lite_engine.proofs.Common.{◌≡◌, ℕ, ◌≤◌, Bool, ◌⊎◌, List, [], ◌∷◌, ◌++◌, IsTrue}
use Rattle.regex_lite_engine.proofs.Common.{Some, None, Option, sym, refl, ap, ◌∙◌, subst, inl, inr}
use Rattle.regex_lite_engine.proofs.Common.{NotAfter, IsAnswered, IsGrown, StartsBelow, IsPreferred}
use Rattle.regex_lite_engine.specs.Pikevm.InStep as walk
use Rattle.regex_lite_engine.specs.Search.Pending as pending_node
use Rattle.regex_lite_engine.proofs.pikevm.InStepLemmas as deep
use Rattle.regex_lite_engine.proofs.search.RecordLemmas.{or_dead}
use Rattle.regex_lite_syntax.proofs.OptionLemmas.{not_there, same_some}
use Rattle.regex_lite_engine.proofs.search.PendingLemmas.{preferred_before}
use Rattle.regex_lite_engine.proofs.search.RecordLemmas as records
use Rattle.regex_lite_engine.proofs.laws.search.WayOrderLemmas.{Before-trans, NotAfter-trans}

module _ (N : Type 0) (step : N → ℕ → Option N) (IsStart : List ℕ → N → Type 0)
    (is_end : N → Bool) (position : N → ℕ) where
  abbrev PendingNode : Type 0
  PendingNode = pending_node.PendingNode N

  abbrev In : N → List ℕ → List PendingNode → Type 0
  In n w os = pending_node.In N n w os

  abbrev Recorded : Type 0
  Recorded = N → Option (List ℕ)

  abbrev IsInStep : ℕ → ℕ → Recorded → List PendingNode → List PendingNode → Option (List ℕ) → Type
      0
  IsInStep p from recorded now next best =
      walk.IsInStep N step IsStart is_end position p from recorded now next best

  pub in_step_passed : {p from : ℕ} {recorded : Recorded} {n : N} {w v : List ℕ}
      {rest next : List PendingNode} {best : Option (List ℕ)}
      → recorded n ≡ Some v →
      IsInStep p from recorded ((n, w) ∷ rest) next best → IsInStep p from recorded rest next best
  in_step_passed {recorded} {n} {w} {v} {rest} {next} {best} r u = record {
    grown = u.grown;
    now_grown = λ m x i. u.now_grown m x (inr i);
    next_grown = u.next_grown;
    starts = λ front m is below. or_dead (settle m front) (u.starts front m is below);
    arrows = λ m x k l s t. settle l (x ++ k ∷ []) (u.arrows m x k l s t);
    best_ends = u.best_ends;
    best_least = u.best_least;
    now_ordered = u.now_ordered.1;
    next_ordered = u.next_ordered;
    now_after = λ m x l y i j. u.now_after m x l y i (inr j);
    ahead = λ m x l y i s q. u.ahead m x l y (inr i) s q;
    now_stands = λ m x i. u.now_stands m x (inr i);
    next_stands = u.next_stands;
    past = u.past;
    now_below = λ m x i. u.now_below m x (inr i);
    next_below = u.next_below;
    best_below = u.best_below;
    now_better = λ m x b i e. u.now_better m x b (inr i) e;
    next_better = u.next_better;
  }
    where
      settle : (m : N) (x : List ℕ)
          → IsAnswered N step is_end IsStart recorded best m x
          ⊎ (In m x ((n, w) ∷ rest) ⊎ In m x next) →
          IsAnswered N step is_end IsStart recorded best m x ⊎ (In m x rest ⊎ In m x next)
      settle m x (inl a) = inl a
      settle m x (inr (inr i)) = inr (inr i)
      settle m x (inr (inl (inr i))) = inr (inl i)
      settle m x (inr (inl (inl e))) = inl (inl (
        v,
        ap recorded e.0 ∙ r,
        subst (λ z. NotAfter v z) (sym e.1)
            (u.ahead n w n v (inl (refl, refl)) r (u.now_stands n w (inl (refl, refl)))),
      ))

  module _ (same : (x y : N) → (x ≡ y) ⊎ (x ≡ y → ⊥)) (width : N → ℕ)
      (no_more : (n : N) (k : ℕ) → width n ≤ k → step n k ≡ None) {p from : ℕ}
      {recorded : Recorded} {n : N} {w : List ℕ} (fresh : recorded n ≡ None)
      {rest next : List PendingNode} {best : Option (List ℕ)}
      (u : IsInStep p from recorded ((n, w) ∷ rest) next best) where
    abbrev extended : Recorded
    extended = records.extended N same recorded n w

    here : In n w ((n, w) ∷ rest)
    here = inl (refl, refl)

    extended_here : extended n ≡ Some w
    extended_here = records.extended_here N same recorded n w

    kept : (m : N) (v : List ℕ) → recorded m ≡ Some v → extended m ≡ Some v
    kept = records.kept N same recorded n w fresh

    back : (m : N) (v : List ℕ) → extended m ≡ Some v → ((m ≡ n) × (v ≡ w)) ⊎ (recorded m ≡ Some v)
    back = records.back N same recorded n w

    -- a match is complete there: it is the best so far, and what is left at this position is
    -- dropped
    pub in_step_complete : IsTrue (is_end n) → ((k : ℕ) → step n k ≡ None)
        → IsInStep p from extended [] next (Some w)
    in_step_complete ends no_arrow = record {
      grown = λ m v r.
          regrown m v
          (records.grown_extended N same recorded n w fresh step is_end IsStart best u.grown
          (u.now_grown n w here) m v r);
      now_grown = λ m v i. absurd i;
      next_grown = λ m v i.
          regrown m v (records.grown_still N same recorded n w fresh step is_end IsStart best m v
          (u.next_grown m v i));
      starts = λ front m is below. or_dead (settle m front) (u.starts front m is below);
      arrows = λ m v k l r s. by_back m v k l s (back m v r);
      best_ends = λ b e. (n, ends, extended_here ∙ e);
      best_least = λ m v e r. (w, refl, by_end m v e (back m v r));
      now_ordered = tt;
      next_ordered = u.next_ordered;
      now_after = λ m v l x i j. absurd j;
      ahead = λ m v l x i r q. absurd i;
      now_stands = λ m v i. absurd i;
      next_stands = u.next_stands;
      past =
          deep.past_now N step same width no_more IsStart is_end position fresh u;
      now_below = λ m v i. absurd i;
      next_below = u.next_below;
      best_below = λ b e. subst (λ z. StartsBelow from z) (same_some e) (u.now_below n w here);
      now_better = λ m v b i e. absurd i;
      next_better = λ m v b i e.
          subst (λ z. IsPreferred v z) (same_some e) (u.now_after m v n w i here);
    }
      where
        regrown : (m : N) (v : List ℕ) → IsGrown N step is_end IsStart extended best m v →
            IsGrown N step is_end IsStart extended (Some w) m v
        regrown m v (inl g) = inl g
        regrown m v (inr g) = inr g

        settle : (m : N) (x : List ℕ)
            → IsAnswered N step is_end IsStart recorded best m x
            ⊎ (In m x ((n, w) ∷ rest) ⊎ In m x next) →
            IsAnswered N step is_end IsStart extended (Some w) m x ⊎ (⊥ ⊎ In m x next)
        settle m x (inl (inl (v, r, le))) = inl (inl (v, kept m v r, le))
        settle m x (inl (inr (b, e, lt))) =
            inl (inr
            (w, refl, Before-trans w b x (preferred_before w b (u.now_better n w b here e)) lt))
        settle m x (inr (inr i)) = inr (inr i)
        settle m x (inr (inl (inr i))) =
            inl (inr (w, refl, preferred_before w x (u.now_ordered.0 m x i)))
        settle m x (inr (inl (inl e))) =
            inl (inl (w, ap extended e.0 ∙ extended_here, inl (sym e.1)))

        by_back : (m : N) (v : List ℕ) (k : ℕ) (l : N) → step m k ≡ Some l
            → ((m ≡ n) × (v ≡ w)) ⊎ (recorded m ≡ Some v) →
            IsAnswered N step is_end IsStart extended (Some w) l (v ++ k ∷ [])
            ⊎ (⊥ ⊎ In l (v ++ k ∷ []) next)
        by_back m v k l s (inr r) = settle l (v ++ k ∷ []) (u.arrows m v k l r s)
        by_back m v k l s (inl e) =
            absurd (not_there (sym (no_arrow k) ∙ ap (λ z. step z k) (sym e.0) ∙ s))

        by_end : (m : N) (v : List ℕ) → IsTrue (is_end m)
            → ((m ≡ n) × (v ≡ w)) ⊎ (recorded m ≡ Some v) → NotAfter w v
        by_end m v e (inl f) = inl (sym f.1)
        by_end m v e (inr r) = let b = u.best_least m v e r in
            NotAfter-trans w b.0 v
            (inr (preferred_before w b.0 (u.now_better n w b.0 here b.1))) b.2
