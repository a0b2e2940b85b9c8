-- What a depth-first walk keeps true when it passes over a node, or begins at a start, and that it
-- ends explored.
use Rattle.regex_lite_engine.proofs.Common.{◌≡◌, ℕ, suc, ◌<◌, ◌≤◌, Bool, ◌⊎◌, List, [], ◌∷◌, ◌++◌}
use Rattle.regex_lite_engine.proofs.Common.{Some, None, Option, sym, refl, ap, ◌∙◌, subst, inl, inr}
use Rattle.regex_lite_engine.proofs.Common.{arith, cases_eq, cases_lt, NotAfter, StartsAt}
use Rattle.regex_lite_engine.proofs.Common.{StartsBelow}
use Rattle.regex_lite_engine.specs.Backtrack.DepthFirst as walk
use Rattle.regex_lite_engine.specs.Search.Explored as explored
use Rattle.regex_lite_engine.specs.Search.Pending as is_pending
use Rattle.regex_lite_engine.proofs.search.RecordLemmas.{or_dead}
use Rattle.regex_lite_engine.proofs.laws.search.Explored as over
use Rattle.regex_lite_engine.proofs.search.PendingLemmas.{preferred_before, below_front, below_up}
use Rattle.regex_lite_syntax.proofs.OptionLemmas.{not_there}

module _ (N : Type 0) (step : N → ℕ → Option N) (start : ℕ → N) (is_end : N → Bool)
    (first last : ℕ) where
  abbrev PendingNode : Type 0
  PendingNode = is_pending.PendingNode N

  abbrev In : N → List ℕ → List PendingNode → Type 0
  In = is_pending.In N

  abbrev Recorded : Type 0
  Recorded = N → Option (List ℕ)

  abbrev IsDead : N → Type 0
  IsDead = explored.IsDead N step is_end

  abbrev IsAnswered : Recorded → Option (List ℕ) → N → List ℕ → Type 0
  IsAnswered = explored.IsAnswered N step is_end (StartsAt start first last)

  abbrev IsExplored : Recorded → Option (List ℕ) → Type 0
  IsExplored = over.IsExplored N step is_end (StartsAt start first last)

  abbrev IsDepthFirst : ℕ → Recorded → List PendingNode → Type 0
  IsDepthFirst = walk.IsDepthFirst N step start is_end first last

  -- what holds at each position's start holds at each start
  pub at_starts : (P : List ℕ → N → Type 0)
      → ((i : ℕ) → first ≤ i → i ≤ last → P (i ∷ []) (start i)) → (front : List ℕ) (n : N)
      → StartsAt start first last front n → P front n
  at_starts P each front n (i, low, high, alone, at) =
      subst (λ z. P z n) (sym alone) (subst (λ z. P (i ∷ []) z) (sym at) (each i low high))

  -- nothing is entered yet
  pub depth_first_begun : (recorded : Recorded) → ((n : N) → recorded n ≡ None)
      → IsDepthFirst first recorded []
  depth_first_begun recorded nothing = record {
    grown = λ n w r. absurd (none n w r);
    pending_grown = λ n w i. absurd i;
    starts = λ i low high lt. absurd (omega (arith, low, lt));
    arrows = λ n w k m r s. absurd (none n w r);
    no_end = λ n w e r. none n w r;
    ordered = tt;
    ahead = λ n w m v i r. absurd i;
    pending_below = λ n w i. absurd i;
    recorded_below = λ m v r. absurd (none m v r);
  }
    where
      none : (n : N) (w : List ℕ) → recorded n ≡ Some w → ⊥
      none n w r = not_there (sym (nothing n) ∙ r)

  -- what was entered before is passed over
  pub depth_first_passed : (from : ℕ) (recorded : Recorded) (n : N) (w v : List ℕ)
      (rest : List PendingNode) → recorded n ≡ Some v → IsDepthFirst from recorded ((n, w) ∷ rest)
      → IsDepthFirst from recorded rest
  depth_first_passed from recorded n w v rest r u = record {
    grown = u.grown;
    pending_grown = λ m x i. u.pending_grown m x (inr i);
    starts = λ i low high lt. or_dead (settle (start i) (i ∷ [])) (u.starts i low high lt);
    arrows = λ m x k l s t. settle l (x ++ k ∷ []) (u.arrows m x k l s t);
    no_end = u.no_end;
    ordered = u.ordered.1;
    ahead = λ m x l y i s. u.ahead m x l y (inr i) s;
    pending_below = λ m x i. u.pending_below m x (inr i);
    recorded_below = u.recorded_below;
  }
    where
      settle : (m : N) (x : List ℕ) → IsAnswered recorded None m x ⊎ In m x ((n, w) ∷ rest)
          → IsAnswered recorded None m x ⊎ In m x rest
      settle m x (inl a) = inl a
      settle m x (inr (inr i)) = inr i
      settle m x (inr (inl e)) =
          inl (inl (
            v,
            ap recorded e.0 ∙ r,
            subst (λ z. NotAfter v z) (sym e.1) (u.ahead n w n v (inl (refl, refl)) r),
          ))

  -- The next start is added. Those between that lead to no end are left out
  pub depth_first_started : (from p : ℕ) (recorded : Recorded) → from ≤ p → first ≤ p → p ≤ last
      → ((i : ℕ) → from ≤ i → i < p → IsDead (start i)) → IsDepthFirst from recorded []
      → IsDepthFirst (suc p) recorded ((start p, p ∷ []) ∷ [])
  depth_first_started from p recorded later low high dead u = record {
    grown = u.grown;
    pending_grown = λ n w i. inl (p, low, high, (only n w i).1, (only n w i).0);
    starts = λ i above below lt. by_place i above below lt (cases_eq i p) (cases_lt i from);
    arrows = λ n w k m r s. settle m (w ++ k ∷ []) (u.arrows n w k m r s);
    no_end = u.no_end;
    ordered = (λ n w i. absurd i, tt);
    ahead = λ n w m v i r. subst (λ z. NotAfter v z) (sym (only n w i).1)
        (inr
        (preferred_before v (p ∷ []) (below_front from p [] v (u.recorded_below m v r) later)));
    pending_below = λ n w i. subst (λ z. StartsBelow (suc p) z) (sym (only n w i).1) (omega arith);
    recorded_below = λ m v r.
        below_up from (suc p) v (omega (arith, later)) (u.recorded_below m v r);
  }
    where
      only : (n : N) (w : List ℕ) → In n w ((start p, p ∷ []) ∷ []) → (n ≡ start p) × (w ≡ p ∷ [])
      only n w (inl e) = e
      only n w (inr i) = absurd i

      settle : (m : N) (x : List ℕ) → IsAnswered recorded None m x ⊎ ⊥
          → IsAnswered recorded None m x ⊎ In m x ((start p, p ∷ []) ∷ [])
      settle m x (inl a) = inl a
      settle m x (inr i) = absurd i

      by_place : (i : ℕ) → first ≤ i → i ≤ last → i < suc p → (i ≡ p) ⊎ (i ≡ p → ⊥)
          → (i < from) ⊎ (from ≤ i)
          → (IsAnswered recorded None (start i) (i ∷ [])
          ⊎ In (start i) (i ∷ []) ((start p, p ∷ []) ∷ []))
          ⊎ IsDead (start i)
      by_place i above below lt (inl e) place = inl (inr (inl (ap start e, ap (λ z. z ∷ []) e)))
      by_place i above below lt (inr apart) (inl before) =
          or_dead (settle (start i) (i ∷ [])) (u.starts i above below before)
      by_place i above below lt (inr apart) (inr le) =
          inr (dead i le (omega (arith, lt, apart)))

  -- where nothing is left, all is explored, and there is no match
  pub depth_first_over : (from : ℕ) (recorded : Recorded)
      → ((i : ℕ) → from ≤ i → i ≤ last → IsDead (start i)) → IsDepthFirst from recorded []
      → IsExplored recorded None
  depth_first_over from recorded dead u = record {
    grown = u.grown;
    starts = at_starts (λ front n. IsAnswered recorded None n front ⊎ IsDead n)
        (λ i low high. by_place i low high (cases_lt i from));
    arrows = λ n w k m r s. settled m (w ++ k ∷ []) (u.arrows n w k m r s);
    best_ends = λ b e. absurd (not_there e);
    best_least = λ n w e r. absurd (u.no_end n w e r);
  }
    where
      settled : (m : N) (x : List ℕ) → IsAnswered recorded None m x ⊎ ⊥
          → IsAnswered recorded None m x
      settled m x (inl a) = a
      settled m x (inr i) = absurd i

      by_place : (i : ℕ) → first ≤ i → i ≤ last → (i < from) ⊎ (from ≤ i)
          → IsAnswered recorded None (start i) (i ∷ []) ⊎ IsDead (start i)
      by_place i low high (inl lt) = or_dead (settled (start i) (i ∷ [])) (u.starts i low high lt)
      by_place i low high (inr le) = inr (dead i le high)
