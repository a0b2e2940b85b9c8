-- The ways that a walk has recorded, and one more.
use Rattle.regex_lite_engine.proofs.Common.{◌≡◌, ℕ, Bool, ◌⊎◌, List, Some, None, Option, sym, refl}
use Rattle.regex_lite_engine.proofs.Common.{ap, ◌∙◌, subst, inl, inr, cases_eq, IsGrown, Node}
use Rattle.regex_lite_syntax.proofs.OptionLemmas.{not_there, same_some}

-- what is answered otherwise, or dead
pub or_dead : {A B D : Type 0} → (A → B) → A ⊎ D → B ⊎ D
or_dead f (inl a) = inl (f a)
or_dead f (inr d) = inr d

pub same_node : (x y : Node) → (x ≡ y) ⊎ (x ≡ y → ⊥)
same_node (a, b) (c, d) = go (cases_eq a c) (cases_eq b d)
  where
    go : (a ≡ c) ⊎ (a ≡ c → ⊥) → (b ≡ d) ⊎ (b ≡ d → ⊥)
        → (◌≡◌ {A = Node} (a, b) (c, d)) ⊎ (◌≡◌ {A = Node} (a, b) (c, d) → ⊥)
    go (inl e) (inl f) = inl cc
    go (inr e) f = inr (λ g. e (ap (λ (z : Node). z.0) g))
    go (inl e) (inr f) = inr (λ g. f (ap (λ (z : Node). z.1) g))

pub none_or : (o : Option (List ℕ)) → ((v : List ℕ) → o ≡ Some v → ⊥) → o ≡ None
none_or None f = refl
none_or (Some v) f = absurd (f v refl)

module _ (N : Type 0) (same : (x y : N) → (x ≡ y) ⊎ (x ≡ y → ⊥)) where
  abbrev Recorded : Type 0
  Recorded = N → Option (List ℕ)

  module _ (recorded : Recorded) (n : N) (w : List ℕ) where
    -- w at n, and elsewhere what was there
    abbrev at_test : (m : N) → (m ≡ n) ⊎ (m ≡ n → ⊥) → Option (List ℕ)
    at_test m d = elim d [ inl e ↦ Some w | inr differ ↦ recorded m ]

    pub extended : Recorded
    extended = λ m. at_test m (same m n)

    pub extended_here : extended n ≡ Some w
    unfolding extended
    extended_here = by_test (same n n)
      where
        by_test : (d : (n ≡ n) ⊎ (n ≡ n → ⊥)) → at_test n d ≡ Some w
        by_test (inl e) = refl
        by_test (inr f) = absurd (f refl)

    pub back : (m : N) (v : List ℕ) → extended m ≡ Some v
        → ((m ≡ n) × (v ≡ w)) ⊎ (recorded m ≡ Some v)
    unfolding extended
    back m v r = by_test (same m n) r
      where
        by_test : (d : (m ≡ n) ⊎ (m ≡ n → ⊥)) → at_test m d ≡ Some v
            → ((m ≡ n) × (v ≡ w)) ⊎ (recorded m ≡ Some v)
        by_test (inl e) q = inl (e, sym (same_some q))
        by_test (inr f) q = inr q

    module _ (fresh : recorded n ≡ None) where
      pub kept : (m : N) (v : List ℕ) → recorded m ≡ Some v → extended m ≡ Some v
      unfolding extended
      kept m v r = by_test (same m n)
        where
          by_test : (d : (m ≡ n) ⊎ (m ≡ n → ⊥)) → at_test m d ≡ Some v
          by_test (inl e) = absurd (not_there (sym fresh ∙ ap recorded (sym e) ∙ r))
          by_test (inr f) = r

      module _ (step : N → ℕ → Option N) (is_end : N → Bool)
          (IsStart : (front : List ℕ) → N → Type 0) (best : Option (List ℕ)) where
        abbrev Grown : Recorded → N → List ℕ → Type 0
        Grown some m v = IsGrown N step is_end IsStart some best m v

        pub grown_still : (m : N) (v : List ℕ) → Grown recorded m v → Grown extended m v
        grown_still m v (inl g) = inl g
        grown_still m v (inr (o, x, k, r, s, e)) = inr (o, x, k, kept o x r, s, e)

        pub grown_extended : ((m : N) (v : List ℕ) → recorded m ≡ Some v → Grown recorded m v)
            → Grown recorded n w → (m : N) (v : List ℕ) → extended m ≡ Some v → Grown extended m v
        grown_extended old new m v r = by_case (back m v r)
          where
            by_case : ((m ≡ n) × (v ≡ w)) ⊎ (recorded m ≡ Some v) → Grown extended m v
            by_case (inl e) =
                subst (λ z. Grown extended z v) (sym e.0)
                (subst (λ z. Grown extended n z) (sym e.1) (grown_still n w new))
            by_case (inr q) = grown_still m v (old m v q)
