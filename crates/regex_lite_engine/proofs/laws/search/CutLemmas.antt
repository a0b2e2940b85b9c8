-- Lists that are cut in two in several ways.
use Rattle.regex_lite_engine.proofs.Common.{◌≡◌, ℕ, ◌⊎◌, List, [], ◌∷◌, ◌++◌, sym, refl, ap, ◌∙◌}
use Rattle.regex_lite_engine.proofs.Common.{inl, inr, append-nil}
use Rattle.regex_lite_syntax.proofs.ListLemmas.{same_head, same_tail}

-- what follows the same prefix is the same
pub same_rest : (a b c : List ℕ) → a ++ b ≡ a ++ c → b ≡ c
same_rest [] b c e = e
same_rest (x ∷ a) b c e = same_rest a b c (same_tail e)

pub rest_of : (a b c d : List ℕ) → a ≡ b → a ++ c ≡ b ++ d → c ≡ d
rest_of a b c d same e = same_rest a c d (e ∙ ap (λ z. z ++ d) (sym same))

pub no_rest : (a b : List ℕ) → a ≡ a ++ b → b ≡ []
no_rest a b e = sym (same_rest a [] b (append-nil a ∙ e))

-- both parts of the empty list are empty
pub both_empty : (a b : List ℕ) → a ++ b ≡ [] → (a ≡ []) × (b ≡ [])
both_empty [] b e = (refl, e)
both_empty (x ∷ a) b e = absurd cc

-- a list with a last number is cut after it, or before it
pub cut_snoc : (a b c : List ℕ) (k : ℕ) → a ++ b ≡ c ++ k ∷ []
    → ((b ≡ []) × (a ≡ c ++ k ∷ [])) ⊎ ((d : List ℕ) × (b ≡ d ++ k ∷ []) × (a ++ d ≡ c))
cut_snoc [] b c k e = inr (c, e, refl)
cut_snoc (x ∷ a) b [] k e =
    let none = both_empty a b (same_tail e) in
    inl (none.1, (λ t. same_head e t ∷ none.0 t))
cut_snoc (x ∷ a) b (y ∷ c) k e = after_head (cut_snoc a b c k (same_tail e))
  where
    after_head : ((b ≡ []) × (a ≡ c ++ k ∷ []))
        ⊎ ((d : List ℕ) × (b ≡ d ++ k ∷ []) × (a ++ d ≡ c))
        → ((b ≡ []) × (x ∷ a ≡ y ∷ (c ++ k ∷ [])))
        ⊎ ((d : List ℕ) × (b ≡ d ++ k ∷ []) × (x ∷ (a ++ d) ≡ y ∷ c))
    after_head (inl (none, all)) = inl (none, λ t. same_head e t ∷ all t)
    after_head (inr (d, last, all)) = inr (d, last, λ t. same_head e t ∷ all t)
