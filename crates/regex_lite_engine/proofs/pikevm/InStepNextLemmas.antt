-- What a walk keeps true from one position to the next, and what it knows when nothing is left.
use Rattle.regex_lite_engine.proofs.Common.{◌≡◌, ℕ, suc, ◌<◌, ◌≤◌, Bool, ◌⊎◌, List, [], ◌∷◌, ◌++◌}
use Rattle.regex_lite_engine.proofs.Common.{Some, None, Option, sym, refl, ◌∙◌, subst, inl, inr}
use Rattle.regex_lite_engine.proofs.Common.{⊎_elim, arith, cases_lt, IsDead, IsAnswered, IsGrown}
use Rattle.regex_lite_engine.proofs.Common.{StartsBelow, IsPreferred}
use Rattle.regex_lite_engine.specs.Pikevm.InStep as walk
use Rattle.regex_lite_engine.specs.Search.Pending as pending_node
use Rattle.regex_lite_syntax.proofs.OptionLemmas.{not_there}
use Rattle.regex_lite_engine.proofs.laws.search.Explored.{IsExplored}
use Rattle.regex_lite_engine.proofs.search.PendingLemmas as order
use Rattle.regex_lite_engine.proofs.search.PendingLemmas.{preferred_before, below_front, below_up}
use Rattle.regex_lite_engine.proofs.search.RecordLemmas.{or_dead}

module _ (N : Type 0) (step : N → ℕ → Option N) (IsStart : List ℕ → N → Type 0)
    (is_end : N → Bool) (position : N → ℕ) where
  abbrev PendingNode : Type 0
  PendingNode = pending_node.PendingNode N

  abbrev In : N → List ℕ → List PendingNode → Type 0
  In n w os = pending_node.In N n w os

  abbrev Ordered : List PendingNode → Type 0
  Ordered os = pending_node.Ordered N os

  abbrev Recorded : Type 0
  Recorded = N → Option (List ℕ)

  abbrev pub IsInStep : ℕ → ℕ → Recorded → List PendingNode → List PendingNode → Option (List ℕ)
      → Type 0
  IsInStep p from recorded now next best =
      walk.IsInStep N step IsStart is_end position p from recorded now next best

  -- with nothing left it is explored. A start is given by a list that is not empty
  pub in_step_over : {p from : ℕ} {recorded : Recorded} {best : Option (List ℕ)} →
      ((front : List ℕ) (n : N) → IsStart front n → (i : ℕ) × (rest : List ℕ) × (front ≡ i ∷ rest))
      →
      (((front : List ℕ) (n : N) → IsStart front n → StartsBelow from front)
      ⊎ ((b : List ℕ) × (best ≡ Some b))) →
      IsInStep p from recorded [] [] best → IsExplored N step is_end IsStart recorded best
  in_step_over {from} {recorded} {best} headed enough u = record {
    grown = u.grown;
    starts = λ front n is. by_enough front n is enough;
    arrows = λ m v k l r s. settled l (v ++ k ∷ []) (u.arrows m v k l r s);
    best_ends = u.best_ends;
    best_least = u.best_least;
  }
    where
      settled : (m : N) (v : List ℕ) → IsAnswered N step is_end IsStart recorded best m v ⊎ (⊥ ⊎ ⊥)
          → IsAnswered N step is_end IsStart recorded best m v
      settled m v (inl a) = a
      settled m v (inr (inl b)) = absurd b
      settled m v (inr (inr b)) = absurd b

      by_head : (front : List ℕ) (n : N) (i : ℕ) (rest : List ℕ) → front ≡ i ∷ rest
          → IsStart front n → (b : List ℕ) → best ≡ Some b → (i < from) ⊎ (from ≤ i) →
          IsAnswered N step is_end IsStart recorded best n front ⊎ IsDead N step is_end n
      by_head front n i rest e is b at (inl lt) =
          or_dead (settled n front) (u.starts front n is (subst (StartsBelow from) (sym e) lt))
      by_head front n i rest e is b at (inr le) = inl (inr (
        b,
        at,
        preferred_before b front (subst (λ z. IsPreferred b z) (sym e)
            (below_front from i rest b (u.best_below b at) le)),
      ))

      by_enough : (front : List ℕ) (n : N) → IsStart front n →
          ((front : List ℕ) (n : N) → IsStart front n → StartsBelow from front)
          ⊎ ((b : List ℕ) × (best ≡ Some b)) →
          IsAnswered N step is_end IsStart recorded best n front ⊎ IsDead N step is_end n
      by_enough front n is (inl all) =
          or_dead (settled n front) (u.starts front n is (all front n is))
      by_enough front n is (inr (b, at)) =
          let (i, rest, e) = headed front n is in by_head front n i rest e is b at (cases_lt i from)

  -- nothing is entered yet
  pub in_step_none : {p first : ℕ} {recorded : Recorded} → ((m : N) → recorded m ≡ None) →
      ((front : List ℕ) (n : N) → IsStart front n → StartsBelow first front → ⊥)
      → IsInStep p first recorded [] [] None
  in_step_none nothing none_below = record {
    grown = λ m v r. absurd (not_there (sym (nothing m) ∙ r));
    now_grown = λ m v i. absurd i;
    next_grown = λ m v i. absurd i;
    starts = λ front m is below. absurd (none_below front m is below);
    arrows = λ m v k l r s. absurd (not_there (sym (nothing m) ∙ r));
    best_ends = λ b e. absurd (not_there e);
    best_least = λ m v e r. absurd (not_there (sym (nothing m) ∙ r));
    now_ordered = tt;
    next_ordered = tt;
    now_after = λ m v l x i j. absurd i;
    ahead = λ m v l x i r q. absurd i;
    now_stands = λ m v i. absurd i;
    next_stands = λ m v i. absurd i;
    past = λ m v r. absurd (not_there (sym (nothing m) ∙ r));
    now_below = λ m v i. absurd i;
    next_below = λ m v i. absurd i;
    best_below = λ b e. absurd (not_there e);
    now_better = λ m v b i e. absurd i;
    next_better = λ m v b i e. absurd i;
  }

  -- starts from which no arrows lead to an end are left out
  pub in_step_skip : {p from from' : ℕ} {recorded : Recorded} {now next : List PendingNode}
      {best : Option (List ℕ)}
      → from ≤ from' →
      ((front : List ℕ) (n : N) → IsStart front n → StartsBelow from' front
      → StartsBelow from front ⊎ IsDead N step is_end n) →
      IsInStep p from recorded now next best → IsInStep p from' recorded now next best
  in_step_skip {from} {from'} {recorded} {now} {next} {best} more dead u = record {
    grown = u.grown;
    now_grown = u.now_grown;
    next_grown = u.next_grown;
    starts = λ front m is below. by_from front m is (dead front m is below);
    arrows = u.arrows;
    best_ends = u.best_ends;
    best_least = u.best_least;
    now_ordered = u.now_ordered;
    next_ordered = u.next_ordered;
    now_after = u.now_after;
    ahead = u.ahead;
    now_stands = u.now_stands;
    next_stands = u.next_stands;
    past = u.past;
    now_below = λ m v i. below_up from from' v more (u.now_below m v i);
    next_below = λ m v i. below_up from from' v more (u.next_below m v i);
    best_below = λ b e. below_up from from' b more (u.best_below b e);
    now_better = u.now_better;
    next_better = u.next_better;
  }
    where
      by_from : (front : List ℕ) (n : N) → IsStart front n
          → StartsBelow from front ⊎ IsDead N step is_end n →
          (IsAnswered N step is_end IsStart recorded best n front
          ⊎ (In n front now ⊎ In n front next)) ⊎ IsDead N step is_end n
      by_from front n is (inl lt) = u.starts front n is lt
      by_from front n is (inr gone) = inr gone

  -- with nothing pending, positions are passed over
  pub in_step_jump : {p p' from : ℕ} {recorded : Recorded} {best : Option (List ℕ)} → p ≤ p'
      → IsInStep p from recorded [] [] best → IsInStep p' from recorded [] [] best
  in_step_jump more u = record {
    grown = u.grown;
    now_grown = u.now_grown;
    next_grown = u.next_grown;
    starts = u.starts;
    arrows = u.arrows;
    best_ends = u.best_ends;
    best_least = u.best_least;
    now_ordered = tt;
    next_ordered = tt;
    now_after = u.now_after;
    ahead = λ m v l x i r q. absurd i;
    now_stands = λ m v i. absurd i;
    next_stands = λ m v i. absurd i;
    past = λ m v r. (let le = u.past m v r in omega (arith, le, more));
    now_below = u.now_below;
    next_below = u.next_below;
    best_below = u.best_below;
    now_better = u.now_better;
    next_better = u.next_better;
  }

  -- the position's own starts, last and in their order. Those that are dead may be left out
  pub in_step_begin : {p : ℕ} {recorded : Recorded} {now : List PendingNode}
      (begun : List PendingNode) → ((m : N) (v : List ℕ) → In m v begun
      → IsStart v m × (position m ≡ p) × ((rest : List ℕ) × (v ≡ p ∷ rest))) →
      Ordered begun →
      ((front : List ℕ) (n : N) → IsStart front n → StartsBelow (suc p) front
      → StartsBelow p front ⊎ (In n front begun ⊎ IsDead N step is_end n)) →
      ((m : N) (v : List ℕ) → recorded m ≡ Some v → position m < p) →
      IsInStep p p recorded now [] None → IsInStep p (suc p) recorded (now ++ begun) [] None
  in_step_begin {p} {recorded} {now} begun own begun_ordered all before u = record {
    grown = u.grown;
    now_grown = λ m v i. by_now_grown m v (order.in_either N step m v now begun i);
    next_grown = λ m v i. absurd i;
    starts = λ front m is below. by_start front m is (all front m is below);
    arrows = λ m v k l r s. settle l (v ++ k ∷ []) (u.arrows m v k l r s);
    best_ends = u.best_ends;
    best_least = u.best_least;
    now_ordered = joined now u.now_ordered u.now_below;
    next_ordered = tt;
    now_after = λ m v l x i j. absurd i;
    ahead = λ m v l x i r q. absurd (too_far l x r q);
    now_stands = λ m v i.
        ⊎_elim (λ j. u.now_stands m v j) (λ j. (own m v j).1)
        (order.in_either N step m v now begun i);
    next_stands = λ m v i. absurd i;
    past = u.past;
    now_below = λ m v i. ⊎_elim (λ j. below_up p (suc p) v (omega arith) (u.now_below m v j))
        (λ j. subst (λ z. StartsBelow (suc p) z) (sym (own m v j).2.1) (omega arith))
        (order.in_either N step m v now begun i);
    next_below = λ m v i. absurd i;
    best_below = λ b e. absurd (not_there e);
    now_better = λ m v b i e. absurd (not_there e);
    next_better = λ m v b i e. absurd i;
  }
    where
      too_far : (l : N) (x : List ℕ) → recorded l ≡ Some x → position l ≡ p → ⊥
      too_far l x r q = let lt = before l x r in absurd (omega (arith, lt, q))

      by_now_grown : (m : N) (v : List ℕ) → In m v now ⊎ In m v begun
          → IsGrown N step is_end IsStart recorded None m v
      by_now_grown m v (inl i) = u.now_grown m v i
      by_now_grown m v (inr i) = inl (own m v i).0

      settle : (m : N) (x : List ℕ)
          → IsAnswered N step is_end IsStart recorded None m x ⊎ (In m x now ⊎ ⊥) →
          IsAnswered N step is_end IsStart recorded None m x ⊎ (In m x (now ++ begun) ⊎ ⊥)
      settle m x (inl a) = inl a
      settle m x (inr (inl i)) = inr (inl (order.in_left N step m x now begun i))
      settle m x (inr (inr i)) = absurd i

      by_start : (front : List ℕ) (n : N) → IsStart front n
          → StartsBelow p front ⊎ (In n front begun ⊎ IsDead N step is_end n) →
          (IsAnswered N step is_end IsStart recorded None n front ⊎ (In n front (now ++ begun) ⊎ ⊥))
          ⊎ IsDead N step is_end n
      by_start front n is (inl sooner) = or_dead (settle n front) (u.starts front n is sooner)
      by_start front n is (inr (inl i)) =
          inl (inr (inl (order.in_right N step n front now begun i)))
      by_start front n is (inr (inr gone)) = inr gone

      joined : (os : List PendingNode) → Ordered os
          → ((m : N) (v : List ℕ) → In m v os → StartsBelow p v) → Ordered (os ++ begun)
      joined [] o f = begun_ordered
      joined (a ∷ os) o f = (
        (λ m v i. ⊎_elim (λ j. o.0 m v j)
            (λ j. (let (rest, e) = (own m v j).2 in
            subst (λ z. IsPreferred a.1 z) (sym e)
            (below_front p p rest a.1 (f a.0 a.1 (inl (refl, refl))) (omega arith))))
            (order.in_either N step m v os begun i)),
        joined os o.1 (λ m v i. f m v (inr i)),
      )

  -- the next position, with no start of its own
  pub in_step_next_alone : {p from : ℕ} {recorded : Recorded} {next : List PendingNode}
      {best : Option (List ℕ)} →
      IsInStep p from recorded [] next best → IsInStep (suc p) from recorded next [] best
  in_step_next_alone {p} {recorded} {next} {best} u = record {
    grown = u.grown;
    now_grown = u.next_grown;
    next_grown = λ m v i. absurd i;
    starts = λ front m is below. or_dead (next_step m front) (u.starts front m is below);
    arrows = λ m v k l r s. next_step l (v ++ k ∷ []) (u.arrows m v k l r s);
    best_ends = u.best_ends;
    best_least = u.best_least;
    now_ordered = u.next_ordered;
    next_ordered = tt;
    now_after = λ m v l x i j. absurd i;
    ahead = λ m v l x i r q. absurd (too_far l x r q);
    now_stands = u.next_stands;
    next_stands = λ m v i. absurd i;
    past = λ m v r. (let le = u.past m v r in omega (arith, le));
    now_below = u.next_below;
    next_below = λ m v i. absurd i;
    best_below = u.best_below;
    now_better = u.next_better;
    next_better = λ m v b i e. absurd i;
  }
    where
      too_far : (l : N) (x : List ℕ) → recorded l ≡ Some x → position l ≡ suc p → ⊥
      too_far l x r q = let le = u.past l x r in absurd (omega (arith, le, q))

      next_step : (m : N) (x : List ℕ)
          → IsAnswered N step is_end IsStart recorded best m x ⊎ (⊥ ⊎ In m x next) →
          IsAnswered N step is_end IsStart recorded best m x ⊎ (In m x next ⊎ ⊥)
      next_step m x (inl a) = inl a
      next_step m x (inr (inl i)) = absurd i
      next_step m x (inr (inr i)) = inr (inl i)
