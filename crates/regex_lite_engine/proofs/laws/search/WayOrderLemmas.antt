-- The order of ways.
use Rattle.regex_lite_engine.proofs.Common.{◌≡◌, ℕ, ◌<◌, ◌⊎◌, List, [], ◌∷◌, ◌++◌, sym, refl, ap}
use Rattle.regex_lite_engine.proofs.Common.{◌∙◌, subst, inl, inr, ⊎_elim, Before, NotAfter}
use Rattle.std.proofs.Common.{lt_trans}

pub Before-trans : (a b c : List ℕ) → Before a b → Before b c → Before a c
Before-trans a b [] p q = q
Before-trans a [] (z ∷ c) p q = absurd p
Before-trans [] (y ∷ b) (z ∷ c) p q = tt
Before-trans (x ∷ a) (y ∷ b) (z ∷ c) (inl p) (inl q) = inl (lt_trans p q)
Before-trans (x ∷ a) (y ∷ b) (z ∷ c) (inl p) (inr q) = inl (subst (λ n. x < n) q.0 p)
Before-trans (x ∷ a) (y ∷ b) (z ∷ c) (inr p) (inl q) = inl (subst (λ n. n < z) (sym p.0) q)
Before-trans (x ∷ a) (y ∷ b) (z ∷ c) (inr p) (inr q) =
    inr (p.0 ∙ q.0, Before-trans a b c p.1 q.1)

pub NotAfter-trans : (a b c : List ℕ) → NotAfter a b → NotAfter b c → NotAfter a c
NotAfter-trans a b c (inl p) q = subst (λ x. NotAfter x c) (sym p) q
NotAfter-trans a b c (inr p) (inl q) = inr (subst (λ x. Before a x) q p)
NotAfter-trans a b c (inr p) (inr q) = inr (Before-trans a b c p q)

-- a prefix comes before what continues it
pub NotAfter-append : (a b : List ℕ) → NotAfter a (a ++ b)
NotAfter-append [] [] = inl refl
NotAfter-append [] (y ∷ b) = inr tt
NotAfter-append (x ∷ a) b =
    ⊎_elim (λ e. inl (ap (λ l. x ∷ l) e)) (λ p. inr (inr (refl, p))) (NotAfter-append a b)

-- the other goes on where this one ends
pub record GoesOn (a b : List ℕ) : Type 0 where
  pub next : ℕ
  pub rest : List ℕ
  pub parts : b ≡ a ++ next ∷ rest

-- one more arrow keeps the order, but at a way that the other continues
pub NotAfter-snoc : (a b : List ℕ) (k : ℕ) → NotAfter a b
    → NotAfter (a ++ k ∷ []) (b ++ k ∷ []) ⊎ GoesOn a b
NotAfter-snoc a b k (inl e) = inl (inl (ap (λ x. x ++ k ∷ []) e))
NotAfter-snoc a [] k (inr p) = absurd p
NotAfter-snoc [] (y ∷ b) k (inr p) = inr (record { next = y; rest = b; parts = refl })
NotAfter-snoc (x ∷ a) (y ∷ b) k (inr (inl p)) = inl (inr (inl p))
NotAfter-snoc (x ∷ a) (y ∷ b) k (inr (inr p)) = after_head (NotAfter-snoc a b k (inr p.1))
  where
    after_head : NotAfter (a ++ k ∷ []) (b ++ k ∷ []) ⊎ GoesOn a b
        → NotAfter (x ∷ (a ++ k ∷ [])) (y ∷ (b ++ k ∷ [])) ⊎ GoesOn (x ∷ a) (y ∷ b)
    after_head (inl (inl e)) = inl (inl (λ t. p.0 t ∷ e t))
    after_head (inl (inr q)) = inl (inr (inr (p.0, q)))
    after_head (inr on) =
        inr (record { next = on.next; rest = on.rest; parts = λ t. sym p.0 t ∷ on.parts t })
