-- What a walk keeps true when it enters a node.
use Rattle.regex_lite_engine.proofs.Common.{◌≡◌, ℕ, suc, ◌≤◌, Bool, ◌⊎◌, List, [], ◌∷◌, ◌++◌}
use Rattle.regex_lite_engine.proofs.Common.{IsTrue, Some, None, Option, sym, refl, ap, ◌∙◌, subst}
use Rattle.regex_lite_engine.proofs.Common.{inl, inr, ⊎_elim, arith, NotAfter, IsAnswered, IsGrown}
use Rattle.regex_lite_engine.proofs.Common.{StartsBelow, IsPreferred}
use Rattle.regex_lite_engine.specs.Pikevm.InStep as walk
use Rattle.regex_lite_engine.specs.Search.Pending as pending_node
use Rattle.regex_lite_engine.proofs.search.RecordLemmas.{or_dead}
use Rattle.regex_lite_engine.proofs.search.PendingLemmas as order
use Rattle.regex_lite_engine.proofs.search.PendingLemmas.{preferred_before, preferred_append}
use Rattle.regex_lite_engine.proofs.search.PendingLemmas.{preferred_longer, below_append}
use Rattle.regex_lite_engine.proofs.search.RecordLemmas as records
use Rattle.regex_lite_engine.proofs.laws.search.WayOrderLemmas.{NotAfter-trans, NotAfter-append}

module _ (N : Type 0) (step : N → ℕ → Option N) (same : (x y : N) → (x ≡ y) ⊎ (x ≡ y → ⊥))
    (width : N → ℕ) (no_more : (n : N) (k : ℕ) → width n ≤ k → step n k ≡ None)
    (IsStart : List ℕ → N → Type 0) (is_end : N → Bool) (position : N → ℕ) where
  abbrev PendingNode : Type 0
  PendingNode = pending_node.PendingNode N

  abbrev In : N → List ℕ → List PendingNode → Type 0
  In n w os = pending_node.In N n w os

  abbrev pub Recorded : Type 0
  Recorded = N → Option (List ℕ)

  abbrev pending : N → List ℕ → ℕ → ℕ → List PendingNode
  pending = order.pending N step

  abbrev pub IsInStep : ℕ → ℕ → Recorded → List PendingNode → List PendingNode → Option (List ℕ)
      → Type 0
  IsInStep p from recorded now next best =
      walk.IsInStep N step IsStart is_end position p from recorded now next best

  module _ {p from : ℕ} {recorded : Recorded} {n : N} {w : List ℕ} (fresh : recorded n ≡ None)
      {rest next : List PendingNode} {best : Option (List ℕ)}
      (known : IsInStep p from recorded ((n, w) ∷ rest) next best) where
    abbrev extended : Recorded
    extended = records.extended N same recorded n w

    here : In n w ((n, w) ∷ rest)
    here = inl (refl, refl)

    extended_here : extended n ≡ Some w
    extended_here = records.extended_here N same recorded n w

    kept : (m : N) (v : List ℕ) → recorded m ≡ Some v → extended m ≡ Some v
    kept = records.kept N same recorded n w fresh

    back : (m : N) (v : List ℕ) → extended m ≡ Some v → ((m ≡ n) × (v ≡ w)) ⊎ (recorded m ≡ Some v)
    back = records.back N same recorded n w

    grown_still : (m : N) (v : List ℕ) → IsGrown N step is_end IsStart recorded best m v
        → IsGrown N step is_end IsStart extended best m v
    grown_still = records.grown_still N same recorded n w fresh step is_end IsStart best

    grown_extended : (m : N) (v : List ℕ) → extended m ≡ Some v
        → IsGrown N step is_end IsStart extended best m v
    grown_extended =
        records.grown_extended N same recorded n w fresh step is_end IsStart best known.grown
        (known.now_grown n w here)

    -- the record of n stands for the pending node n
    settle_on : (rest' next' : List PendingNode)
        → ((m : N) (x : List ℕ) → In m x rest → In m x rest')
        → ((m : N) (x : List ℕ) → In m x next → In m x next') → (m : N) (x : List ℕ)
        → IsAnswered N step is_end IsStart recorded best m x
        ⊎ (In m x ((n, w) ∷ rest) ⊎ In m x next) →
        IsAnswered N step is_end IsStart extended best m x ⊎ (In m x rest' ⊎ In m x next')
    settle_on rest' next' f g m x (inl (inl (v, r, le))) = inl (inl (v, kept m v r, le))
    settle_on rest' next' f g m x (inl (inr a)) = inl (inr a)
    settle_on rest' next' f g m x (inr (inr i)) = inr (inr (g m x i))
    settle_on rest' next' f g m x (inr (inl (inr i))) = inr (inl (f m x i))
    settle_on rest' next' f g m x (inr (inl (inl e))) =
        inl (inl (w, ap extended e.0 ∙ extended_here, inl (sym e.1)))

    -- its own arrows
    abbrev own : List PendingNode
    own = pending n w (width n) 0

    arrow_is_pending : (k : ℕ) (l : N) → step n k ≡ Some l → In l (w ++ k ∷ []) own
    arrow_is_pending = order.arrow_is_pending N step n w (width n) (no_more n)

    one_of : (m : N) (v : List ℕ) → In m v own
        → (j : ℕ) × (0 ≤ j) × (step n j ≡ Some m) × (v ≡ w ++ j ∷ [])
    one_of = order.is_pending N step n w (width n) 0

    own_grown : (m : N) (v : List ℕ) → In m v own → IsGrown N step is_end IsStart extended best m v
    own_grown m v i = let r = one_of m v i in inr (n, w, r.0, extended_here, r.2, r.3)

    own_below : (m : N) (v : List ℕ) → In m v own → StartsBelow from v
    own_below m v i =
        let r = one_of m v i in
        subst (StartsBelow from) (sym r.3)
        (below_append from w (r.0 ∷ []) (known.now_below n w here))

    own_better : (m : N) (v b : List ℕ) → best ≡ Some b → In m v own → IsPreferred v b
    own_better m v b e i =
        let r = one_of m v i in
        subst (λ z. IsPreferred z b) (sym r.3)
        (preferred_append w b (r.0 ∷ []) (known.now_better n w b here e))

    pub past_now : (m : N) (v : List ℕ) → extended m ≡ Some v → position m ≤ p
    past_now m v r = by_case (back m v r)
      where
        by_case : ((m ≡ n) × (v ≡ w)) ⊎ (recorded m ≡ Some v) → position m ≤ p
        by_case (inl e) =
            let same_pos : position m ≡ p = ap position e.0 ∙ known.now_stands n w here in
            omega (arith, same_pos)
        by_case (inr q) = known.past m v q

    not_ended : (IsTrue (is_end n) → ⊥) → (m : N) (v : List ℕ) → IsTrue (is_end m)
        → extended m ≡ Some v → (b : List ℕ) × (best ≡ Some b) × NotAfter b v
    not_ended open_still m v e r = by_case (back m v r)
      where
        by_case : ((m ≡ n) × (v ≡ w)) ⊎ (recorded m ≡ Some v)
            → (b : List ℕ) × (best ≡ Some b) × NotAfter b v
        by_case (inl f) = absurd (open_still (subst (λ z. IsTrue (is_end z)) f.0 e))
        by_case (inr q) = known.best_least m v e q

    best_ends_now : (b : List ℕ) → best ≡ Some b
        → (m : N) × IsTrue (is_end m) × (extended m ≡ Some b)
    best_ends_now b e = let r = known.best_ends b e in (r.0, r.1, kept r.0 b r.2)

    arrows_settled : (rest' next' : List PendingNode)
        → ((m : N) (x : List ℕ) → In m x rest → In m x rest')
        → ((m : N) (x : List ℕ) → In m x next → In m x next') →
        ((k : ℕ) (l : N) → step n k ≡ Some l → In l (w ++ k ∷ []) rest' ⊎ In l (w ++ k ∷ []) next')
        →
        (m : N) (v : List ℕ) (k : ℕ) (l : N) → extended m ≡ Some v → step m k ≡ Some l →
        IsAnswered N step is_end IsStart extended best l (v ++ k ∷ [])
        ⊎ (In l (v ++ k ∷ []) rest' ⊎ In l (v ++ k ∷ []) next')
    arrows_settled rest' next' f g new m v k l r s = by_case (back m v r)
      where
        by_case : ((m ≡ n) × (v ≡ w)) ⊎ (recorded m ≡ Some v) →
            IsAnswered N step is_end IsStart extended best l (v ++ k ∷ [])
            ⊎ (In l (v ++ k ∷ []) rest' ⊎ In l (v ++ k ∷ []) next')
        by_case (inr q) = settle_on rest' next' f g l (v ++ k ∷ []) (known.arrows m v k l q s)
        by_case (inl e) =
            inr (subst (λ z. In l (z ++ k ∷ []) rest' ⊎ In l (z ++ k ∷ []) next') (sym e.1)
            (new k l (ap (λ z. step z k) (sym e.0) ∙ s)))

    -- where all arrows stay at the position, they come first of what is left there
    pub in_step_free : (IsTrue (is_end n) → ⊥)
        → ((k : ℕ) (l : N) → step n k ≡ Some l → position l ≡ position n) →
        IsInStep p from extended (own ++ rest) next best
    in_step_free open_still stays = record {
      grown = grown_extended;
      now_grown = λ m v i.
          ⊎_elim (own_grown m v) (λ j. grown_still m v (known.now_grown m v (inr j)))
          (either m v i);
      next_grown = λ m v i. grown_still m v (known.next_grown m v i);
      starts = λ front m is below.
          or_dead (settle_on (own ++ rest) next
          (λ m v j. order.in_right N step m v own rest j) (λ m v j. j) m front)
          (known.starts front m is below);
      arrows =
          arrows_settled (own ++ rest) next
          (λ m v j. order.in_right N step m v own rest j) (λ m v j. j)
          (λ k l s. inl (order.in_left N step l (w ++ k ∷ []) own rest (arrow_is_pending k l s)));
      best_ends = best_ends_now;
      best_least = not_ended open_still;
      now_ordered =
          order.pending_ordered N step n w (width n) 0 rest known.now_ordered.1 known.now_ordered.0;
      next_ordered = known.next_ordered;
      now_after = λ m v l x i j. by_now_after m v l x i (either l x j);
      ahead = λ m v l x i r q. by_ahead m v l x q (either m v i) (back l x r);
      now_stands = λ m v i. ⊎_elim (by_pos m v) (λ j. known.now_stands m v (inr j)) (either m v i);
      next_stands = known.next_stands;
      past = past_now;
      now_below = λ m v i.
          ⊎_elim (own_below m v) (λ j. known.now_below m v (inr j)) (either m v i);
      next_below = known.next_below;
      best_below = known.best_below;
      now_better = λ m v b i e.
          ⊎_elim (own_better m v b e) (λ j. known.now_better m v b (inr j) e) (either m v i);
      next_better = known.next_better;
    }
      where
        either : (m : N) (v : List ℕ) → In m v (own ++ rest) → In m v own ⊎ In m v rest
        either m v i = order.in_either N step m v own rest i

        by_now_after : (m : N) (v : List ℕ) (l : N) (x : List ℕ) → In m v next
            → In l x own ⊎ In l x rest → IsPreferred v x
        by_now_after m v l x i (inr j) = known.now_after m v l x i (inr j)
        by_now_after m v l x i (inl j) = let r = one_of l x j in
            subst (λ z. IsPreferred v z) (sym r.3)
            (preferred_longer v w (r.0 ∷ []) (known.now_after m v n w i here))

        by_ahead : (m : N) (v : List ℕ) (l : N) (x : List ℕ) → position l ≡ p
            → In m v own ⊎ In m v rest
            → ((l ≡ n) × (x ≡ w)) ⊎ (recorded l ≡ Some x) → NotAfter x v
        by_ahead m v l x z (inl i) (inl e) = let r = one_of m v i in
            subst (λ y. NotAfter y v) (sym e.1)
            (subst (λ y. NotAfter w y) (sym r.3) (NotAfter-append w (r.0 ∷ [])))
        by_ahead m v l x z (inl i) (inr q) = let r = one_of m v i in
            subst (λ y. NotAfter x y) (sym r.3) (NotAfter-trans x w (w ++ r.0 ∷ [])
            (known.ahead n w l x here q z) (NotAfter-append w (r.0 ∷ [])))
        by_ahead m v l x z (inr i) (inl e) =
            subst (λ y. NotAfter y v) (sym e.1)
            (inr (preferred_before w v (known.now_ordered.0 m v i)))
        by_ahead m v l x z (inr i) (inr q) = known.ahead m v l x (inr i) q z

        by_pos : (m : N) (v : List ℕ) → In m v own → position m ≡ p
        by_pos m v i = let r = one_of m v i in stays r.0 m r.2 ∙ known.now_stands n w here

    -- where all arrows lead to the next position, they come last there
    pub in_step_read : (IsTrue (is_end n) → ⊥)
        → ((k : ℕ) (l : N) → step n k ≡ Some l → position l ≡ suc (position n)) →
        IsInStep p from extended rest (next ++ own) best
    in_step_read open_still moves = record {
      grown = grown_extended;
      now_grown = λ m v i. grown_still m v (known.now_grown m v (inr i));
      next_grown = λ m v i.
          ⊎_elim (λ j. grown_still m v (known.next_grown m v j)) (own_grown m v) (either m v i);
      starts = λ front m is below.
          or_dead (settle_on rest (next ++ own) (λ m v j. j)
          (λ m v j. order.in_left N step m v next own j) m front)
          (known.starts front m is below);
      arrows =
          arrows_settled rest (next ++ own) (λ m v j. j)
          (λ m v j. order.in_left N step m v next own j)
          (λ k l s. inr (order.in_right N step l (w ++ k ∷ []) next own (arrow_is_pending k l s)));
      best_ends = best_ends_now;
      best_least = not_ended open_still;
      now_ordered = known.now_ordered.1;
      next_ordered =
          order.pending_after N step n w (width n) next known.next_ordered
          (λ m v i. known.now_after m v n w i here);
      now_after = λ m v l x i j.
          ⊎_elim (λ k. known.now_after m v l x k (inr j)) (by_now_after m v l x j) (either m v i);
      ahead = λ m v l x i r q. by_ahead m v l x q i (back l x r);
      now_stands = λ m v i. known.now_stands m v (inr i);
      next_stands = λ m v i. ⊎_elim (known.next_stands m v) (by_pos m v) (either m v i);
      past = past_now;
      now_below = λ m v i. known.now_below m v (inr i);
      next_below = λ m v i. ⊎_elim (known.next_below m v) (own_below m v) (either m v i);
      best_below = known.best_below;
      now_better = λ m v b i e. known.now_better m v b (inr i) e;
      next_better = λ m v b i e.
          ⊎_elim (λ j. known.next_better m v b j e) (own_better m v b e) (either m v i);
    }
      where
        either : (m : N) (v : List ℕ) → In m v (next ++ own) → In m v next ⊎ In m v own
        either m v i = order.in_either N step m v next own i

        by_now_after : (m : N) (v : List ℕ) (l : N) (x : List ℕ) → In l x rest → In m v own
            → IsPreferred v x
        by_now_after m v l x j i = let r = one_of m v i in
            subst (λ z. IsPreferred z x) (sym r.3)
            (preferred_append w x (r.0 ∷ []) (known.now_ordered.0 l x j))

        by_ahead : (m : N) (v : List ℕ) (l : N) (x : List ℕ) → position l ≡ p → In m v rest
            → ((l ≡ n) × (x ≡ w)) ⊎ (recorded l ≡ Some x) → NotAfter x v
        by_ahead m v l x z i (inl e) =
            subst (λ y. NotAfter y v) (sym e.1)
            (inr (preferred_before w v (known.now_ordered.0 m v i)))
        by_ahead m v l x z i (inr q) = known.ahead m v l x (inr i) q z

        by_pos : (m : N) (v : List ℕ) → In m v own → position m ≡ suc p
        by_pos m v i = let r = one_of m v i in moves r.0 m r.2 ∙ ap suc (known.now_stands n w here)
