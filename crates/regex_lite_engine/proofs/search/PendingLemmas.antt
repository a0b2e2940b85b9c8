-- The order of ways, and the ways that are still to be followed.
use Rattle.regex_lite_engine.proofs.Common.{◌≡◌, ℕ, zero, suc, ◌+◌, ◌<◌, ◌≤◌, ◌⊎◌, List, [], ◌∷◌}
use Rattle.regex_lite_engine.proofs.Common.{◌++◌, Some, None, Option, sym, refl, ap, ◌∙◌, subst}
use Rattle.regex_lite_engine.proofs.Common.{inl, inr, ⊎_elim, append-nil, arith, cases_lt}
use Rattle.regex_lite_engine.proofs.Common.{cases_order, Before, StartsBelow, IsPreferred}
use Rattle.regex_lite_engine.specs.Search.Pending as pending_node
use Rattle.regex_lite_syntax.proofs.OptionLemmas.{not_there}

pub preferred_before : (a b : List ℕ) → IsPreferred a b → Before a b
preferred_before [] b p = absurd p
preferred_before (x ∷ a) [] p = absurd p
preferred_before (x ∷ a) (y ∷ b) (inl p) = inl p
preferred_before (x ∷ a) (y ∷ b) (inr (e, p)) = inr (e, preferred_before a b p)

-- what continues the preferred one is preferred
pub preferred_append : (a b c : List ℕ) → IsPreferred a b → IsPreferred (a ++ c) b
preferred_append [] b c p = absurd p
preferred_append (x ∷ a) [] c p = absurd p
preferred_append (x ∷ a) (y ∷ b) c (inl p) = inl p
preferred_append (x ∷ a) (y ∷ b) c (inr (e, p)) = inr (e, preferred_append a b c p)

-- and it is preferred to what continues the other
pub preferred_longer : (a b c : List ℕ) → IsPreferred a b → IsPreferred a (b ++ c)
preferred_longer [] b c p = absurd p
preferred_longer (x ∷ a) [] c p = absurd p
preferred_longer (x ∷ a) (y ∷ b) c (inl p) = inl p
preferred_longer (x ∷ a) (y ∷ b) c (inr (e, p)) = inr (e, preferred_longer a b c p)

pub preferred_snoc : (w : List ℕ) (j k : ℕ) → j < k → IsPreferred (w ++ j ∷ []) (w ++ k ∷ [])
preferred_snoc [] j k p = inl p
preferred_snoc (x ∷ w) j k p = inr (refl, preferred_snoc w j k p)

pub below_front : (from i : ℕ) (rest v : List ℕ) → StartsBelow from v → from ≤ i
    → IsPreferred v (i ∷ rest)
below_front from i rest [] h q = absurd h
below_front from i rest (j ∷ v) h q = inl (omega (arith, h, q))

pub below_append : (from : ℕ) (v x : List ℕ) → StartsBelow from v → StartsBelow from (v ++ x)
below_append from [] x h = absurd h
below_append from (i ∷ v) x h = h

pub below_up : (from from' : ℕ) (v : List ℕ) → from ≤ from' → StartsBelow from v
    → StartsBelow from' v
below_up from from' [] le h = absurd h
below_up from from' (i ∷ v) le h = omega (arith, h, le)

module _ (N : Type 0) (step : N → ℕ → Option N) where
  abbrev pub PendingNode : Type 0
  PendingNode = pending_node.PendingNode N

  abbrev pub In : N → List ℕ → List PendingNode → Type 0
  In n w os = pending_node.In N n w os

  abbrev pub Ordered : List PendingNode → Type 0
  Ordered os = pending_node.Ordered N os

  pub in_left : (n : N) (w : List ℕ) (os ps : List PendingNode) → In n w os → In n w (os ++ ps)
  in_left n w [] ps i = absurd i
  in_left n w (o ∷ os) ps (inl e) = inl e
  in_left n w (o ∷ os) ps (inr i) = inr (in_left n w os ps i)

  pub in_right : (n : N) (w : List ℕ) (os ps : List PendingNode) → In n w ps → In n w (os ++ ps)
  in_right n w [] ps i = i
  in_right n w (o ∷ os) ps i = inr (in_right n w os ps i)

  pub in_either : (n : N) (w : List ℕ) (os ps : List PendingNode) → In n w (os ++ ps)
      → In n w os ⊎ In n w ps
  in_either n w [] ps i = inr i
  in_either n w (o ∷ os) ps (inl e) = inl (inl e)
  in_either n w (o ∷ os) ps (inr i) = ⊎_elim (λ a. inl (inr a)) (λ a. inr a) (in_either n w os ps i)

  abbrev pub one_pending_node : Option N → List ℕ → List PendingNode
  one_pending_node None w = []
  one_pending_node (Some m) w = (m, w) ∷ []

  -- the arrows of n from the k-th on, after the way w
  abbrev pub pending : N → List ℕ → ℕ → ℕ → List PendingNode
  pending n w zero k = []
  pending n w (suc c) k = one_pending_node (step n k) (w ++ k ∷ []) ++ pending n w c (suc k)

  -- a pending node among them is that of one of its arrows
  pub is_pending : (n : N) (w : List ℕ) (c k : ℕ) (m : N) (v : List ℕ) → In m v (pending n w c k) →
      (j : ℕ) × (k ≤ j) × (step n j ≡ Some m) × (v ≡ w ++ j ∷ [])
  is_pending n w zero k m v i = absurd i
  is_pending n w (suc c) k m v i =
      by_first (step n k) refl
      (in_either m v (one_pending_node (step n k) (w ++ k ∷ [])) (pending n w c (suc k)) i)
      (λ i'. is_pending n w c (suc k) m v i')
    where
      Goal : Type 0
      Goal = (j : ℕ) × (k ≤ j) × (step n j ≡ Some m) × (v ≡ w ++ j ∷ [])

      by_first : (o : Option N) → step n k ≡ o
          → In m v (one_pending_node (step n k) (w ++ k ∷ [])) ⊎ In m v (pending n w c (suc k)) →
          (In m v (pending n w c (suc k))
          → (j : ℕ) × (suc k ≤ j) × (step n j ≡ Some m) × (v ≡ w ++ j ∷ [])) → Goal
      by_first o e (inr i') f = let r = f i' in (r.0, omega (arith, r.1), r.2, r.3)
      by_first None e (inl i') f = absurd
          (subst (λ z. In m v (one_pending_node z (w ++ k ∷ []))) e i')
      by_first (Some q) e (inl i') f = here
          (subst (λ z. In m v (one_pending_node z (w ++ k ∷ []))) e i')
        where
          here : In m v ((q, w ++ k ∷ []) ∷ []) → Goal
          here (inl g) = (k, omega arith, e ∙ ap Some (sym g.0), g.1)
          here (inr g) = absurd g

  -- and each of its arrows is among them
  pub pending_arrow : (n : N) (w : List ℕ) (c k j : ℕ) (m : N) → k ≤ j → j < k + c
      → step n j ≡ Some m → In m (w ++ j ∷ []) (pending n w c k)
  pending_arrow n w zero k j m p q e = absurd (omega (arith, p, q))
  pending_arrow n w (suc c) k j m p q e =
      by_place (cases_order k j) (λ lt. pending_arrow n w c (suc k) j m lt (omega (arith, q)) e)
    where
      here : k ≡ j → In m (w ++ j ∷ []) (one_pending_node (step n k) (w ++ k ∷ []))
      here f =
          subst (λ z. In m (w ++ j ∷ []) (one_pending_node z (w ++ k ∷ [])))
          (sym (ap (step n) f ∙ e)) (inl (refl, ap (λ z. w ++ z ∷ []) (sym f)))

      by_place : (k ≡ j) ⊎ ((k < j) ⊎ (j < k))
          → (suc k ≤ j → In m (w ++ j ∷ []) (pending n w c (suc k)))
          → In m (w ++ j ∷ []) (pending n w (suc c) k)
      by_place (inl f) g =
          in_left m (w ++ j ∷ []) (one_pending_node (step n k) (w ++ k ∷ []))
          (pending n w c (suc k)) (here f)
      by_place (inr (inl lt)) g =
          in_right m (w ++ j ∷ []) (one_pending_node (step n k) (w ++ k ∷ []))
          (pending n w c (suc k)) (g lt)
      by_place (inr (inr lt)) g = absurd (omega (arith, lt, p))

  -- where there are no more than c, those are all
  pub arrow_is_pending : (n : N) (w : List ℕ) (c : ℕ) → ((k : ℕ) → c ≤ k → step n k ≡ None)
      → (k : ℕ) (m : N) → step n k ≡ Some m → In m (w ++ k ∷ []) (pending n w c 0)
  arrow_is_pending n w c no_more k m e = by_size (cases_lt k c)
    where
      by_size : (k < c) ⊎ (c ≤ k) → In m (w ++ k ∷ []) (pending n w c 0)
      by_size (inl lt) = pending_arrow n w c 0 k m (omega arith) (omega (arith, lt)) e
      by_size (inr le) = absurd (not_there (sym (no_more k le) ∙ e))

  pub pending_ordered : (n : N) (w : List ℕ) (c k : ℕ) (rest : List PendingNode) → Ordered rest
      → ((m : N) (v : List ℕ) → In m v rest → IsPreferred w v) →
      Ordered (pending n w c k ++ rest)
  pending_ordered n w zero k rest o f = o
  pending_ordered n w (suc c) k rest o f =
      by_first (step n k) (pending_ordered n w c (suc k) rest o f)
    where
      later : (m : N) (v : List ℕ) → In m v (pending n w c (suc k) ++ rest)
          → IsPreferred (w ++ k ∷ []) v
      later m v i =
          ⊎_elim (λ a.
          (let r = is_pending n w c (suc k) m v a in subst (λ z. IsPreferred (w ++ k ∷ []) z)
          (sym r.3) (preferred_snoc w k r.0 (omega (arith, r.1)))))
          (λ b. preferred_append w v (k ∷ []) (f m v b))
          (in_either m v (pending n w c (suc k)) rest i)

      by_first : (x : Option N) → Ordered (pending n w c (suc k) ++ rest)
          → Ordered ((one_pending_node x (w ++ k ∷ []) ++ pending n w c (suc k)) ++ rest)
      by_first None h = h
      by_first (Some q) h = (later, h)

  -- pending nodes that come last after a list in order, each of which is preferred to them
  pub pending_after : (n : N) (w : List ℕ) (c : ℕ) (os : List PendingNode) → Ordered os
      → ((m : N) (v : List ℕ) → In m v os → IsPreferred v w) → Ordered (os ++ pending n w c 0)
  pending_after n w c [] o f =
      subst Ordered (append-nil (pending n w c 0))
      (pending_ordered n w c 0 [] tt (λ m v i. absurd i))
  pending_after n w c (a ∷ os) o f = (
    (λ m v i.
        ⊎_elim (λ j. o.0 m v j) (λ j. (let r = is_pending n w c 0 m v j in
        subst (λ z. IsPreferred a.1 z) (sym r.3)
        (preferred_longer a.1 w (r.0 ∷ []) (f a.0 a.1 (inl (refl, refl))))))
        (in_either m v os (pending n w c 0) i)),
    pending_after n w c os o.1 (λ m v i. f m v (inr i)),
  )
