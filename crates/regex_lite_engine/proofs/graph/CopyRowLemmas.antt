-- Copies in a row, and what is given by numbers from some one on.
use Rattle.regex_lite_engine.proofs.Common.{◌≡◌, ℕ, zero, suc, ◌+◌, Bool, ◌∷◌, refl, ap, ◌∙◌, subst}
use Rattle.regex_lite_engine.proofs.Common.{arith, Address, part, Content, next_copy, in_copies}

-- from part k on, what stands inside is given by part
abbrev pub PartsAre : (content : Address → Content) → ℕ → (parts : ℕ → Address → Content) → Type 0
PartsAre content k parts = (c : ℕ) (a : Address) → content (suc (k + c) ∷ a) ≡ parts c a

module _ (content : Address → Content) (parts : ℕ → Address → Content) where
  pub parts_from_0 : ((c : ℕ) (a : Address) → content (suc c ∷ a) ≡ parts c a)
      → PartsAre content 0 parts
  parts_from_0 e c a =
      let same : c ≡ 0 + c = omega arith in
      subst (λ n. content (suc n ∷ a) ≡ parts c a) same (e c a)

  module _ (k : ℕ) (e : PartsAre content k parts) where
    pub first_part : (a : Address) → content (suc k ∷ a) ≡ parts 0 a
    first_part a =
        let same : k + 0 ≡ k = omega arith in
        subst (λ n. content (suc n ∷ a) ≡ parts 0 a) same (e 0 a)

    pub later_parts : PartsAre content (suc k) (λ c. parts (suc c))
    later_parts c a =
        let same : k + suc c ≡ suc k + c = omega arith in
        subst (λ n. content (suc n ∷ a) ≡ parts (suc c) a) same (e (suc c) a)

module _ (pre : Address) (greedy : Bool) (enter : Address → Address)
    (inside : Address → (exit : Address) → Address → Content) where
  abbrev next : (left k : ℕ) → (exit : Address) → Address
  next = next_copy pre greedy enter inside

  abbrev row : (left k : ℕ) → (exit : Address) → (rest : ℕ → Address → Content) → ℕ → Address
      → Content
  row = in_copies pre greedy enter inside

  -- the last of n + 1 copies is copy n
  pub copy_last : (n k : ℕ) (after : Address) (rest : ℕ → Address → Content) (a : Address)
      → row (suc n) k after rest n a ≡ inside (part pre (k + n)) after a
  copy_last zero k after rest a =
      let same : k ≡ k + 0 = omega arith in ap (λ m. inside (part pre m) after a) same
  copy_last (suc n) k after rest a =
      let same : suc k + n ≡ k + suc n = omega arith in
      copy_last n (suc k) after rest a ∙ ap (λ m. inside (part pre m) after a) same

  pub next_before : (n k : ℕ) (after : Address)
      → next (suc n) k after ≡ next n k (enter (part pre (k + n)))
  next_before zero k after =
      let same : k ≡ k + 0 = omega arith in ap (λ m. enter (part pre m)) same
  next_before (suc n) k after = refl

  -- and the others lead to it
  pub copies_before : (n k : ℕ) (after : Address) (rest : ℕ → Address → Content) (c : ℕ)
      (a : Address) → row (suc n) k after rest c a
      ≡ row n k (enter (part pre (k + n))) (row 1 (k + n) after rest) c a
  copies_before zero k after rest c a =
      let same : k ≡ k + 0 = omega arith in ap (λ m. row 1 m after rest c a) same
  copies_before (suc n) k after rest zero a =
      let same : suc k + n ≡ k + suc n = omega arith in
      let moved = ap (λ m. next n (suc k) (enter (part pre m))) same in
      ap (λ b. inside (part pre k) b a) (next_before n (suc k) after ∙ moved)
  copies_before (suc n) k after rest (suc c) a =
      let same : suc k + n ≡ k + suc n = omega arith in
      let moved = λ (m : ℕ). row n (suc k) (enter (part pre m)) (row 1 m after rest) c a in
      copies_before n (suc k) after rest c a ∙ ap moved same

  pub after_copies : (n k : ℕ) (after : Address) (rest : ℕ → Address → Content) (c : ℕ)
      (a : Address) → row n k after rest (n + c) a ≡ rest c a
  after_copies zero k after rest c a =
      let same : 0 + c ≡ c = omega arith in ap (λ m. rest m a) same
  after_copies (suc n) k after rest c a =
      let same : suc n + c ≡ suc (n + c) = omega arith in
      ap (λ m. row (suc n) k after rest m a) same ∙ after_copies n (suc k) after rest c a
