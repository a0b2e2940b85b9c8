-- Of finitely many lists of numbers one is preferred to all others.
use Rattle.regex_lite_engine.proofs.Common.{◌≡◌, ℕ, zero, suc, ◌+◌, ◌<◌, ◌≤◌, ◌⊎◌, List, [], ◌∷◌}
use Rattle.regex_lite_engine.proofs.Common.{◌++◌, length, sym, refl, subst, inl, inr, arith}
use Rattle.regex_lite_engine.proofs.Common.{cases_order, IsPreferred}

-- the list is preferred to each other with the property
abbrev pub Least : (List ℕ → Type 0) → Type 0
Least P =
    (ks : List ℕ) × P ks × ((other : List ℕ) → P other → (ks ≡ other) ⊎ IsPreferred ks other)

abbrev pub NoList : (List ℕ → Type 0) → Type 0
NoList P = (ks : List ℕ) → P ks → ⊥

-- of two lists with the property, one is preferred
abbrev pub AreApart : (List ℕ → Type 0) → Type 0
AreApart P =
    (a b : List ℕ) → P a → P b → (a ≡ b) ⊎ (IsPreferred a b ⊎ IsPreferred b a)

-- with a first number that is at least k
abbrev From : ℕ → (List ℕ → Type 0) → List ℕ → Type 0
From k P [] = ⊥
From k P (l ∷ ks) = (k ≤ l) × P (l ∷ ks)

empty_first : (P : List ℕ → Type 0) → AreApart P → P [] → (other : List ℕ) → P other
    → ([] ≡ other) ⊎ IsPreferred [] other
empty_first P apart p [] q = inl refl
empty_first P apart p (k ∷ other) q = elim (apart [] (k ∷ other) p q) [
  | inl e ↦ inl e
  | inr differ ↦ elim differ [ inl first ↦ inr first | inr last ↦ absurd last ]
]

with_first : (k : ℕ) (ks : List ℕ) (P : List ℕ → Type 0)
    → ((other : List ℕ) → P (k ∷ other) → (ks ≡ other) ⊎ IsPreferred ks other)
    → (other : List ℕ) → From k P other → (k ∷ ks ≡ other) ⊎ IsPreferred (k ∷ ks) other
with_first k ks P first [] q = absurd q
with_first k ks P first (l ∷ other) q = elim (cases_order k l) [
  | inl e ↦ same e
  | inr order ↦ elim order [
    | inl less ↦ inr (inl less)
    | inr greater ↦ absurd (omega (arith, greater, q.0))
  ]
]
  where
    same : k ≡ l → (k ∷ ks ≡ l ∷ other) ⊎ IsPreferred (k ∷ ks) (l ∷ other)
    same e =
        let here : P (k ∷ other) = subst (λ n. P (n ∷ other)) (sym e) q.1 in
        elim (first other here) [
          | inl f ↦ inl (λ t. e t ∷ f t)
          | inr before ↦ inr (inr (e, before))
        ]

-- the first numbers from k on, of which this many are left
scan : (left k : ℕ) (P : List ℕ → Type 0)
    → ((l : ℕ) (ks : List ℕ) → P (l ∷ ks) → l < k + left)
    → ((l : ℕ) → Least (λ ks. P (l ∷ ks)) ⊎ NoList (λ ks. P (l ∷ ks)))
    → Least (From k P) ⊎ NoList (From k P)
scan zero k P few one = inr none
  where
    none : NoList (From k P)
    none [] q = q
    none (l ∷ ks) q = let less = few l ks q.1 in omega (arith, less, q.0)
scan (suc left) k P few one =
    by_first (one k)
    (scan left (suc k) P (λ l ks p. (let less = few l ks p in omega (arith, less))) one)
  where
    weaken : (ks : List ℕ) → From (suc k) P ks → From k P ks
    weaken [] q = q
    weaken (l ∷ ks) q = (omega (arith, q.0), q.1)

    strengthen : NoList (λ ks. P (k ∷ ks)) → (ks : List ℕ) → From k P ks → From (suc k) P ks
    strengthen none [] q = q
    strengthen none (l ∷ ks) q = elim (cases_order k l) [
      | inl e ↦ absurd (none ks (subst (λ n. P (n ∷ ks)) (sym e) q.1))
      | inr order ↦ elim order [
        | inl less ↦ (less, q.1)
        | inr greater ↦ absurd (omega (arith, greater, q.0))
      ]
    ]

    by_first : Least (λ ks. P (k ∷ ks)) ⊎ NoList (λ ks. P (k ∷ ks))
        → Least (From (suc k) P) ⊎ NoList (From (suc k) P) → Least (From k P) ⊎ NoList (From k P)
    by_first (inl (ks, p, first)) further = inl (k ∷ ks, (omega arith, p), with_first k ks P first)
    by_first (inr none) further = elim further [
      | inl found ↦ inl (
        found.0,
        weaken found.0 found.1,
        λ other q. found.2 other (strengthen none other q),
      )
      | inr gone ↦ inr (λ ks q. gone ks (strengthen none ks q))
    ]

-- the lists are shorter than a number, and what may come after a prefix is less than a number
pub least : (long : ℕ) (P : List ℕ → Type 0) → ((ks : List ℕ) → P ks ⊎ (P ks → ⊥))
    → ((ks : List ℕ) → P ks → length ks < long)
    → ((us : List ℕ) → (d : ℕ) × ((k : ℕ) (ks : List ℕ) → P (us ++ k ∷ ks) → k < d))
    → AreApart P → Least P ⊎ NoList P
least zero P decide short few apart =
    inr (λ ks p. let less = short ks p in absurd (omega (arith, less)))
least (suc long) P decide short few apart = elim (decide []) [
  | inl p ↦ inl ([], p, empty_first P apart p)
  | inr none ↦ by_arrows none (scan (few []).0 0 P bound (λ l. (
      least long (λ ks. P (l ∷ ks)) (λ ks. decide (l ∷ ks))
      (λ ks p. (let less = short (l ∷ ks) p in omega (arith, less)))
      (λ us. few (l ∷ us))
      (λ a b p q. prefixes l a b (apart (l ∷ a) (l ∷ b) p q)))))
]
  where
    bound : (l : ℕ) (ks : List ℕ) → P (l ∷ ks) → l < 0 + (few []).0
    bound l ks p = let less = (few []).1 l ks p in omega (arith, less)

    prefixes : (k : ℕ) (a b : List ℕ)
        → (k ∷ a ≡ k ∷ b) ⊎ (IsPreferred (k ∷ a) (k ∷ b) ⊎ IsPreferred (k ∷ b) (k ∷ a))
        → (a ≡ b) ⊎ (IsPreferred a b ⊎ IsPreferred b a)
    prefixes k a b (inl e) = inl cc
    prefixes k a b (inr (inl (inl less))) = absurd (omega (arith, less))
    prefixes k a b (inr (inl (inr p))) = inr (inl p.1)
    prefixes k a b (inr (inr (inl less))) = absurd (omega (arith, less))
    prefixes k a b (inr (inr (inr p))) = inr (inr p.1)

    from_0 : (P [] → ⊥) → (ks : List ℕ) → P ks → From 0 P ks
    from_0 none [] p = none p
    from_0 none (l ∷ ks) p = (omega arith, p)

    of_0 : (ks : List ℕ) → From 0 P ks → P ks
    of_0 [] q = absurd q
    of_0 (l ∷ ks) q = q.1

    by_arrows : (P [] → ⊥) → Least (From 0 P) ⊎ NoList (From 0 P) → Least P ⊎ NoList P
    by_arrows none (inl (ks, p, first)) =
        inl (ks, of_0 ks p, λ other q. first other (from_0 none other q))
    by_arrows none (inr gone) = inr (λ ks p. gone ks (from_0 none ks p))
