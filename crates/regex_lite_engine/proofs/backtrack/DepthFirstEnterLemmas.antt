-- What a depth-first walk keeps true when it enters a node, and that the first match is the best.
use Rattle.regex_lite_engine.proofs.Common.{◌≡◌, ℕ, ◌<◌, ◌≤◌, Bool, ◌⊎◌, List, [], ◌∷◌, ◌++◌}
use Rattle.regex_lite_engine.proofs.Common.{IsTrue, Some, None, Option, sym, refl, ap, ◌∙◌, subst}
use Rattle.regex_lite_engine.proofs.Common.{inl, inr, cases_lt, NotAfter, StartsAt, StartsBelow}
use Rattle.regex_lite_engine.specs.Backtrack.DepthFirst as walk
use Rattle.regex_lite_engine.specs.Search.Explored as explored
use Rattle.regex_lite_engine.specs.Search.Pending as is_pending
use Rattle.regex_lite_engine.proofs.backtrack.DepthFirstLemmas.{at_starts}
use Rattle.regex_lite_engine.proofs.laws.search.Explored as over
use Rattle.regex_lite_engine.proofs.laws.search.WayOrderLemmas.{NotAfter-trans, NotAfter-append}
use Rattle.regex_lite_engine.proofs.search.RecordLemmas.{or_dead}
use Rattle.regex_lite_engine.proofs.search.PendingLemmas as order
use Rattle.regex_lite_engine.proofs.search.PendingLemmas.{preferred_before, below_front}
use Rattle.regex_lite_engine.proofs.search.PendingLemmas.{below_append}
use Rattle.regex_lite_syntax.proofs.OptionLemmas.{not_there}
use Rattle.regex_lite_engine.proofs.search.RecordLemmas as records

module _ (N : Type 0) (step : N → ℕ → Option N) (start : ℕ → N) (is_end : N → Bool)
    (first last : ℕ) where
  abbrev PendingNode : Type 0
  PendingNode = is_pending.PendingNode N

  abbrev In : N → List ℕ → List PendingNode → Type 0
  In = is_pending.In N

  abbrev Recorded : Type 0
  Recorded = N → Option (List ℕ)

  abbrev IsDead : N → Type 0
  IsDead = explored.IsDead N step is_end

  abbrev IsAnswered : Recorded → Option (List ℕ) → N → List ℕ → Type 0
  IsAnswered = explored.IsAnswered N step is_end (StartsAt start first last)

  abbrev IsGrown : Recorded → Option (List ℕ) → N → List ℕ → Type 0
  IsGrown = explored.IsGrown N step is_end (StartsAt start first last)

  abbrev IsExplored : Recorded → Option (List ℕ) → Type 0
  IsExplored = over.IsExplored N step is_end (StartsAt start first last)

  abbrev IsDepthFirst : ℕ → Recorded → List PendingNode → Type 0
  IsDepthFirst = walk.IsDepthFirst N step start is_end first last

  module _ (same : (x y : N) → (x ≡ y) ⊎ (x ≡ y → ⊥)) (from : ℕ) (recorded : Recorded) (n : N)
      (w : List ℕ) (fresh : recorded n ≡ None) (rest : List PendingNode)
      (u : IsDepthFirst from recorded ((n, w) ∷ rest)) where
    abbrev extended : Recorded
    extended = records.extended N same recorded n w

    here : In n w ((n, w) ∷ rest)
    here = inl (refl, refl)

    extended_here : extended n ≡ Some w
    extended_here = records.extended_here N same recorded n w

    kept : (m : N) (v : List ℕ) → recorded m ≡ Some v → extended m ≡ Some v
    kept = records.kept N same recorded n w fresh

    back : (m : N) (v : List ℕ) → extended m ≡ Some v
        → ((m ≡ n) × (v ≡ w)) ⊎ (recorded m ≡ Some v)
    back = records.back N same recorded n w

    grown_still : (m : N) (v : List ℕ) → IsGrown recorded None m v → IsGrown extended None m v
    grown_still =
        records.grown_still N same recorded n w fresh step is_end (StartsAt start first last) None

    grown_extended : (m : N) (v : List ℕ) → extended m ≡ Some v → IsGrown extended None m v
    grown_extended =
        records.grown_extended N same recorded n w fresh step is_end (StartsAt start first last)
        None u.grown (u.pending_grown n w here)

    -- a place that was not entered, and where no match is complete, is entered: its arrows come
    -- first of what is left
    module _ (width : ℕ) (no_more : (k : ℕ) → width ≤ k → step n k ≡ None) where
      abbrev own : List PendingNode
      own = order.pending N step n w width 0

      one_of : (m : N) (v : List ℕ) → In m v own
          → (j : ℕ) × (0 ≤ j) × (step n j ≡ Some m) × (v ≡ w ++ j ∷ [])
      one_of = order.is_pending N step n w width 0

      either : (m : N) (v : List ℕ) → In m v (own ++ rest) → In m v own ⊎ In m v rest
      either m v = order.in_either N step m v own rest

      pub depth_first_entered : (IsTrue (is_end n) → ⊥) → IsDepthFirst from extended (own ++ rest)
      depth_first_entered no_match = record {
        grown = grown_extended;
        pending_grown = λ m v i. by_grown m v (either m v i);
        starts = λ i low high lt. or_dead (settle (start i) (i ∷ [])) (u.starts i low high lt);
        arrows = λ m v k l r s. by_arrow m v k l s (back m v r);
        no_end = λ m v e r. by_end m v e (back m v r);
        ordered = order.pending_ordered N step n w width 0 rest u.ordered.1 u.ordered.0;
        ahead = λ m v l x i r. by_ahead m v l x (either m v i) (back l x r);
        pending_below = λ m v i. by_below m v (either m v i);
        recorded_below = λ m v r. by_recorded m v (back m v r);
      }
        where
          by_grown : (m : N) (v : List ℕ) → In m v own ⊎ In m v rest → IsGrown extended None m v
          by_grown m v (inr i) = grown_still m v (u.pending_grown m v (inr i))
          by_grown m v (inl i) = let r = one_of m v i in inr (n, w, r.0, extended_here, r.2, r.3)

          settle : (m : N) (v : List ℕ) → IsAnswered recorded None m v ⊎ In m v ((n, w) ∷ rest)
              → IsAnswered extended None m v ⊎ In m v (own ++ rest)
          settle m v (inl (inl (x, r, le))) = inl (inl (x, kept m x r, le))
          settle m v (inl (inr (b, e, lt))) = absurd (not_there e)
          settle m v (inr (inl e)) = inl (inl (w, ap extended e.0 ∙ extended_here, inl (sym e.1)))
          settle m v (inr (inr i)) = inr (order.in_right N step m v own rest i)

          arrow_of : (k : ℕ) (l : N) → step n k ≡ Some l → In l (w ++ k ∷ []) (own ++ rest)
          arrow_of k l s =
              order.in_left N step l (w ++ k ∷ []) own rest
              (order.arrow_is_pending N step n w width no_more k l s)

          by_arrow : (m : N) (v : List ℕ) (k : ℕ) (l : N) → step m k ≡ Some l
              → ((m ≡ n) × (v ≡ w)) ⊎ (recorded m ≡ Some v)
              → IsAnswered extended None l (v ++ k ∷ []) ⊎ In l (v ++ k ∷ []) (own ++ rest)
          by_arrow m v k l s (inr r) = settle l (v ++ k ∷ []) (u.arrows m v k l r s)
          by_arrow m v k l s (inl e) =
              inr (subst (λ z. In l (z ++ k ∷ []) (own ++ rest)) (sym e.1)
              (arrow_of k l (ap (λ z. step z k) (sym e.0) ∙ s)))

          by_end : (m : N) (v : List ℕ) → IsTrue (is_end m)
              → ((m ≡ n) × (v ≡ w)) ⊎ (recorded m ≡ Some v) → ⊥
          by_end m v e (inl f) = no_match (subst (λ z. IsTrue (is_end z)) f.0 e)
          by_end m v e (inr r) = u.no_end m v e r

          by_ahead : (m : N) (v : List ℕ) (l : N) (x : List ℕ) → In m v own ⊎ In m v rest
              → ((l ≡ n) × (x ≡ w)) ⊎ (recorded l ≡ Some x) → NotAfter x v
          by_ahead m v l x (inl i) (inl e) =
              let r = one_of m v i in
              subst (λ z. NotAfter z v) (sym e.1)
              (subst (λ z. NotAfter w z) (sym r.3) (NotAfter-append w (r.0 ∷ [])))
          by_ahead m v l x (inl i) (inr q) =
              let r = one_of m v i in
              subst (λ z. NotAfter x z) (sym r.3)
              (NotAfter-trans x w (w ++ r.0 ∷ []) (u.ahead n w l x here q)
              (NotAfter-append w (r.0 ∷ [])))
          by_ahead m v l x (inr i) (inl e) =
              subst (λ z. NotAfter z v) (sym e.1) (inr (preferred_before w v (u.ordered.0 m v i)))
          by_ahead m v l x (inr i) (inr q) = u.ahead m v l x (inr i) q

          by_below : (m : N) (v : List ℕ) → In m v own ⊎ In m v rest → StartsBelow from v
          by_below m v (inr i) = u.pending_below m v (inr i)
          by_below m v (inl i) =
              let r = one_of m v i in
              subst (λ z. StartsBelow from z) (sym r.3)
              (below_append from w (r.0 ∷ []) (u.pending_below n w here))

          by_recorded : (m : N) (v : List ℕ) → ((m ≡ n) × (v ≡ w)) ⊎ (recorded m ≡ Some v)
              → StartsBelow from v
          by_recorded m v (inl e) =
              subst (λ z. StartsBelow from z) (sym e.1) (u.pending_below n w here)
          by_recorded m v (inr r) = u.recorded_below m v r

    -- a match is complete there: it is the best, and all that is left is after it
    pub depth_first_complete : IsTrue (is_end n) → ((k : ℕ) → step n k ≡ None)
        → IsExplored extended (Some w)
    depth_first_complete ends no_arrow = record {
      grown = λ m v r. regrown m v (grown_extended m v r);
      starts = at_starts N step start is_end first last
          (λ front m. IsAnswered extended (Some w) m front ⊎ IsDead m)
          (λ i low high. by_place i low high (cases_lt i from));
      arrows = λ m v k l r s. by_arrow m v k l s (back m v r);
      best_ends = λ b e. (n, ends, extended_here ∙ e);
      best_least = λ m v e r. (w, refl, by_end m v e (back m v r));
    }
      where
        regrown : (m : N) (v : List ℕ) → IsGrown extended None m v → IsGrown extended (Some w) m v
        regrown m v (inl g) = inl g
        regrown m v (inr g) = inr g

        settle : (m : N) (v : List ℕ) → IsAnswered recorded None m v ⊎ In m v ((n, w) ∷ rest)
            → IsAnswered extended (Some w) m v
        settle m v (inl (inl (x, r, le))) = inl (x, kept m x r, le)
        settle m v (inl (inr (b, e, lt))) = absurd (not_there e)
        settle m v (inr (inl e)) = inl (w, ap extended e.0 ∙ extended_here, inl (sym e.1))
        settle m v (inr (inr i)) = inr (w, refl, preferred_before w v (u.ordered.0 m v i))

        by_place : (i : ℕ) → first ≤ i → i ≤ last → (i < from) ⊎ (from ≤ i)
            → IsAnswered extended (Some w) (start i) (i ∷ []) ⊎ IsDead (start i)
        by_place i low high (inl lt) =
            or_dead (settle (start i) (i ∷ [])) (u.starts i low high lt)
        by_place i low high (inr le) =
            let below = u.pending_below n w here in
            inl (inr (w, refl, preferred_before w (i ∷ []) (below_front from i [] w below le)))

        by_arrow : (m : N) (v : List ℕ) (k : ℕ) (l : N) → step m k ≡ Some l
            → ((m ≡ n) × (v ≡ w)) ⊎ (recorded m ≡ Some v)
            → IsAnswered extended (Some w) l (v ++ k ∷ [])
        by_arrow m v k l s (inr r) = settle l (v ++ k ∷ []) (u.arrows m v k l r s)
        by_arrow m v k l s (inl e) =
            absurd (not_there (sym (no_arrow k) ∙ ap (λ z. step z k) (sym e.0) ∙ s))

        by_end : (m : N) (v : List ℕ) → IsTrue (is_end m)
            → ((m ≡ n) × (v ≡ w)) ⊎ (recorded m ≡ Some v) → NotAfter w v
        by_end m v e (inl f) = inl (sym f.1)
        by_end m v e (inr r) = absurd (u.no_end m v e r)
