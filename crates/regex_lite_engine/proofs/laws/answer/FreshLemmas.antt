-- Walks that come to no node twice, among finitely many nodes.
use Rattle.regex_lite_engine.proofs.Common.{◌≡◌, ℕ, suc, ◌<◌, ◌≤◌, ◌≢◌, ◌⊎◌, List, [], ◌∷◌, ◌++◌}
use Rattle.regex_lite_engine.proofs.Common.{length, Some, None, Option, sym, refl, ap, ◌∙◌, subst}
use Rattle.regex_lite_engine.proofs.Common.{inl, inr, arith, ⊎_elim, Leads, NoneTwice}
use Rattle.regex_lite_syntax.proofs.ListLemmas.{same_head, same_tail}
use Rattle.regex_lite_engine.proofs.InLemmas.{In}
use Rattle.regex_lite_engine.proofs.laws.LeadsLemmas.{leads_after}
use Rattle.regex_lite_syntax.proofs.OptionLemmas.{same_some}

-- with the item in front unless the test says no
abbrev unless : {N P : Type 0} → P ⊎ (P → ⊥) → N → List N → List N
unless (inl holds) m list = list
unless (inr fails) m list = m ∷ list

module _ {N : Type 0} (one_or_two : (a b : N) → (a ≡ b) ⊎ (a ≢ b)) where
  abbrev pub without : N → List N → List N
  without n [] = []
  without n (m ∷ list) = unless (one_or_two m n) m (without n list)

  in_without : (n m : N) (list : List N) → In m list → m ≢ n → In m (without n list)
  in_without n m [] is apart = is
  in_without n m (l ∷ list) is apart =
      by_test (one_or_two l n) is (λ later. in_without n m list later apart)
    where
      by_test : (test : (l ≡ n) ⊎ (l ≢ n)) → (l ≡ m) ⊎ In m list
          → (In m list → In m (without n list)) → In m (unless test l (without n list))
      by_test (inl e) (inl f) on = absurd (apart (sym f ∙ e))
      by_test (inl e) (inr later) on = on later
      by_test (inr differ) (inl f) on = inl f
      by_test (inr differ) (inr later) on = inr (on later)

  of_without : (n m : N) (list : List N) → In m (without n list) → In m list × (m ≢ n)
  of_without n m [] is = absurd is
  of_without n m (l ∷ list) is =
      by_test (one_or_two l n) is (λ later. of_without n m list later)
    where
      by_test : (test : (l ≡ n) ⊎ (l ≢ n)) → In m (unless test l (without n list))
          → (In m (without n list) → In m list × (m ≢ n)) → ((l ≡ m) ⊎ In m list) × (m ≢ n)
      by_test (inl e) later on = (inr (on later).0, (on later).1)
      by_test (inr differ) (inl f) on = (inl f, λ e. differ (f ∙ e))
      by_test (inr differ) (inr later) on = (inr (on later).0, (on later).1)

  not_longer : (n : N) (list : List N) → length (without n list) ≤ length list
  not_longer n [] = omega arith
  not_longer n (l ∷ list) = by_test (one_or_two l n) (not_longer n list)
    where
      by_test : (test : (l ≡ n) ⊎ (l ≢ n)) → length (without n list) ≤ length list
          → length (unless test l (without n list)) ≤ suc (length list)
      by_test (inl e) less = omega (arith, less)
      by_test (inr differ) less = omega (arith, less)

  shorter : (n : N) (list : List N) → In n list → length (without n list) < length list
  shorter n [] is = absurd is
  shorter n (l ∷ list) is = by_test (one_or_two l n) is (λ later. shorter n list later)
    where
      by_test : (test : (l ≡ n) ⊎ (l ≢ n)) → (l ≡ n) ⊎ In n list
          → (In n list → length (without n list) < length list)
          → length (unless test l (without n list)) < suc (length list)
      by_test (inl e) is on = let less = not_longer n list in omega (arith, less)
      by_test (inr differ) (inl f) on = absurd (differ f)
      by_test (inr differ) (inr later) on = let less = on later in omega (arith, less)

  in_or_not : (n : N) (list : List N) → In n list ⊎ (In n list → ⊥)
  in_or_not n [] = inr (λ is. is)
  in_or_not n (m ∷ list) = elim (one_or_two m n) [
    | inl e ↦ inl (inl e)
    | inr apart ↦ elim (in_or_not n list) [
      | inl is ↦ inl (inr is)
      | inr gone ↦ inr (λ either. ⊎_elim apart gone either)
    ]
  ]

  module _ (step : N → ℕ → Option N) where
    -- the walk goes by nodes that are left, and each is left no more once it has been there
    abbrev pub Fresh : (left : List N) → N → List ℕ → Type 0
    Fresh left n [] = In n left
    Fresh left n (k ∷ ks) =
        In n left × (m : N) × (step n k ≡ Some m) × Fresh (without n left) m ks

    here : (left : List N) (n : N) (ks : List ℕ) → Fresh left n ks → In n left
    here left n [] fresh = fresh
    here left n (k ∷ ks) fresh = fresh.0

    pub fresh_short : (left : List N) (n : N) (ks : List ℕ) → Fresh left n ks
        → length ks < length left
    fresh_short [] n [] fresh = absurd fresh
    fresh_short (l ∷ left) n [] fresh = omega arith
    fresh_short left n (k ∷ ks) (is, m, s, fresh) =
        let less = shorter n left is in
        let rest = fresh_short (without n left) m ks fresh in
        omega (arith, less, rest)

    fresh_in : (left : List N) (n m : N) (ks us vs : List ℕ) → Fresh left n ks → ks ≡ us ++ vs
        → Leads N step n us m → In m left
    fresh_in left n m ks [] vs fresh e there = subst (λ z. In z left) there (here left n ks fresh)
    fresh_in left n m [] (u ∷ us) vs fresh e there = absurd cc
    fresh_in left n m (k ∷ ks) (u ∷ us) vs (is, next, s, fresh) e there =
        let later = fresh_in (without n left) next m ks us vs fresh (same_tail e)
        (leads_after step us n next m k u s (same_head e) there) in
        (of_without n m left later).0

    pub fresh_once : (left : List N) (n : N) (ks : List ℕ) → Fresh left n ks → NoneTwice N step n ks
    fresh_once left n [] fresh [] [] ws m e f g = refl
    fresh_once left n [] fresh [] (v ∷ vs) ws m e f g = absurd cc
    fresh_once left n [] fresh (u ∷ us) vs ws m e f g = absurd cc
    fresh_once left n (k ∷ ks) (is, next, s, fresh) [] [] ws m e f g = refl
    fresh_once left n (k ∷ ks) (is, next, s, fresh) [] (v ∷ vs) ws m e f g =
        let from_n = subst (λ z. Leads N step z (v ∷ vs) m) (sym f) g in
        let back = leads_after step vs n next m k v s (same_head e) from_n in
        let again = fresh_in (without n left) next m ks vs ws fresh (same_tail e) back in
        absurd ((of_without n m left again).1 (sym f))
    fresh_once left n (k ∷ ks) (is, next, s, fresh) (u ∷ us) vs ws m e f g =
        fresh_once (without n left) next ks fresh us vs ws m (same_tail e)
        (leads_after step us n next m k u s (same_head e) f) g

    pub once_fresh : (left : List N) (n b : N) (ks : List ℕ) → Leads N step n ks b
        → NoneTwice N step n ks
        → ((us vs : List ℕ) (m : N) → ks ≡ us ++ vs → Leads N step n us m → In m left)
        → Fresh left n ks
    once_fresh left n b [] along once all = all [] [] n refl refl
    once_fresh left n b (k ∷ ks) (next, s, along) once all = (
      all [] (k ∷ ks) n refl refl,
      next,
      s,
      once_fresh (without n left) next b ks along later_once others,
    )
      where
        later_once : NoneTwice N step next ks
        later_once us vs ws m e f g = once (k ∷ us) vs ws m (ap (λ z. k ∷ z) e) (next, s, f) g

        others : (us vs : List ℕ) (m : N) → ks ≡ us ++ vs → Leads N step next us m
            → In m (without n left)
        others us vs m e f =
            in_without n m left (all (k ∷ us) vs m (ap (λ z. k ∷ z) e) (next, s, f))
            (λ back. (
            let loop = subst (λ z. Leads N step n (k ∷ us) z) back (next, s, f) in
            let none = once [] (k ∷ us) vs n (ap (λ z. k ∷ z) e) refl loop in
            absurd cc))

    pub fresh_or_not : (left : List N) (n : N) (ks : List ℕ)
        → Fresh left n ks ⊎ (Fresh left n ks → ⊥)
    fresh_or_not left n [] = in_or_not n left
    fresh_or_not left n (k ∷ ks) =
        both (in_or_not n left) (step n k) refl (λ m. fresh_or_not (without n left) m ks)
      where
        both : In n left ⊎ (In n left → ⊥) → (o : Option N) → step n k ≡ o
            → ((m : N) → Fresh (without n left) m ks ⊎ (Fresh (without n left) m ks → ⊥))
            → Fresh left n (k ∷ ks) ⊎ (Fresh left n (k ∷ ks) → ⊥)
        both (inr gone) o s on = inr (λ fresh. gone fresh.0)
        both (inl is) None s on = inr (λ fresh. (
            let two : None ≡ Some fresh.1 = sym s ∙ fresh.2 in
            absurd cc))
        both (inl is) (Some m) s on = elim (on m) [
          | inl fresh ↦ inl (is, m, s, fresh)
          | inr stale ↦ inr (λ fresh. (
              let one : fresh.1 ≡ m = same_some (sym fresh.2 ∙ s) in
              stale (subst (λ z. Fresh (without n left) z ks) one fresh.3)))
        ]

    -- where the arrows lead, if they do
    pub leads_or_not : (ks : List ℕ) (n : N)
        → ((b : N) × Leads N step n ks b) ⊎ ((b : N) → Leads N step n ks b → ⊥)
    leads_or_not [] n = inl (n, refl)
    leads_or_not (k ∷ ks) n = by_step (step n k) refl (λ m. leads_or_not ks m)
      where
        by_step : (o : Option N) → step n k ≡ o
            → ((m : N) → ((b : N) × Leads N step m ks b) ⊎ ((b : N) → Leads N step m ks b → ⊥))
            → ((b : N) × Leads N step n (k ∷ ks) b) ⊎ ((b : N) → Leads N step n (k ∷ ks) b → ⊥)
        by_step None s on = inr (λ b along. (
            let two : None ≡ Some along.0 = sym s ∙ along.1 in
            absurd cc))
        by_step (Some m) s on = elim (on m) [
          | inl there ↦ inl (there.0, (m, s, there.1))
          | inr never ↦ inr (λ b along. (
              let one : along.0 ≡ m = same_some (sym along.1 ∙ s) in
              never b (subst (λ z. Leads N step z ks b) one along.2)))
        ]
