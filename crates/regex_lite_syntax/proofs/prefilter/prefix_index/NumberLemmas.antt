-- Lists of the numbers that pass a test.
use Rattle.regex_lite_syntax.proofs.Common.{◌≡◌, ℕ, zero, suc, ◌+◌, ◌-◌, ◌*◌, ◌%◌, ◌^◌, ◌<◌, ◌≤◌}
use Rattle.regex_lite_syntax.proofs.Common.{Bool, true, false, cond, [], ◌∷◌, ◌++◌, ◌==◌, bit_and}
use Rattle.regex_lite_syntax.proofs.Common.{sym, refl, ap, ◌∙◌, inl, inr, arith, cases_eq, bit_at}
use Rattle.regex_lite_syntax.proofs.Common.{range_with_len}
use Rattle.std.proofs.Common.{w64}
use Rattle.std.specs.Int.{bit_not, trailing_zeros}
use Rattle.std.specs.List.{filter}
use Rattle.std.proofs.lemmas.Nat.{and_le_l}
use Rattle.std.proofs.lemmas.Nat.Bits.{bit_at-trailing_zeros, bit_at-zero}
use Rattle.std.proofs.lemmas.Nat.Bits.{bit_at_clear_same, bit_at_clear_other}
use Rattle.std.proofs.lemmas.List.Elements.{filter-append}
use Rattle.regex_lite_syntax.specs.Prefilter.Rows.{set_from}

pub filter_same : (p q : ℕ → Bool) (a n : ℕ) → ((k : ℕ) → a ≤ k → k < a + n → p k ≡ q k)
    → filter p (range_with_len a n) ≡ filter q (range_with_len a n)
filter_same p q a zero same = refl
filter_same p q a (suc n) same =
    ap (λ b. cond b (a ∷ filter p (range_with_len (a + 1) n)) (filter p (range_with_len (a + 1) n)))
    (same a (omega arith) (omega arith))
    ∙ ap (λ rest. cond (q a) (a ∷ rest) rest)
    (filter_same p q (a + 1) n (λ k low high. same k (omega (arith, low)) (omega (arith, high))))

pub filter_none : (p : ℕ → Bool) (a n : ℕ) → ((k : ℕ) → a ≤ k → k < a + n → p k ≡ false)
    → filter p (range_with_len a n) ≡ []
filter_none p a zero none = refl
filter_none p a (suc n) none =
    ap (λ b. cond b (a ∷ filter p (range_with_len (a + 1) n)) (filter p (range_with_len (a + 1) n)))
    (none a (omega arith) (omega arith))
    ∙ filter_none p (a + 1) n (λ k low high. none k (omega (arith, low)) (omega (arith, high)))

pub filter_all : (p : ℕ → Bool) (a n : ℕ) → ((k : ℕ) → p k ≡ true)
    → filter p (range_with_len a n) ≡ range_with_len a n
filter_all p a zero all = refl
filter_all p a (suc n) all =
    ap (λ b. cond b (a ∷ filter p (range_with_len (a + 1) n)) (filter p (range_with_len (a + 1) n)))
    (all a)
    ∙ ap (λ rest. a ∷ rest) (filter_all p (a + 1) n all)

-- the least that passes comes first, and after it come the others
pub filter_first : (p q : ℕ → Bool) (a n z : ℕ) → a ≤ z → z < a + n → p z ≡ true → q z ≡ false
    → ((k : ℕ) → a ≤ k → k < z → p k ≡ false)
    → ((k : ℕ) → a ≤ k → k < a + n → (k ≡ z → ⊥) → q k ≡ p k)
    → filter p (range_with_len a n) ≡ z ∷ filter q (range_with_len a n)
filter_first p q a zero z low high set clear before others = absurd (omega (arith, low, high))
filter_first p q a (suc n) z low high set clear before others = elim (cases_eq a z) [
  | inl same ↦
      let here : p a ≡ true = ap p same ∙ set in
      let gone : q a ≡ false = ap q same ∙ clear in
      let rest : filter q (range_with_len (a + 1) n) ≡ filter p (range_with_len (a + 1) n)
      = filter_same q p (a + 1) n (λ k above below. others k (omega (arith, above))
      (omega (arith, below)) (λ e. omega (arith, e, same, above))) in
      ap (λ b. cond b (a ∷ filter p (range_with_len (a + 1) n))
      (filter p (range_with_len (a + 1) n)))
      here
      ∙ ap (λ x. x ∷ filter p (range_with_len (a + 1) n)) same
      ∙ sym (ap (λ b. z ∷ cond b (a ∷ filter q (range_with_len (a + 1) n))
      (filter q (range_with_len (a + 1) n))) gone
      ∙ ap (λ x. z ∷ x) rest)
  | inr apart ↦
      let above : a + 1 ≤ z = omega (arith, low, apart) in
      let off : p a ≡ false = before a (omega arith) (omega (arith, above)) in
      let off_too : q a ≡ false = others a (omega arith) (omega arith) apart ∙ off in
      ap (λ b. cond b (a ∷ filter p (range_with_len (a + 1) n))
      (filter p (range_with_len (a + 1) n)))
      off
      ∙ filter_first p q (a + 1) n z above (omega (arith, high)) set clear
      (λ k lo hi. before k (omega (arith, lo)) hi)
      (λ k lo hi. others k (omega (arith, lo)) (omega (arith, hi)))
      ∙ sym (ap (λ b. z ∷ cond b (a ∷ filter q (range_with_len (a + 1) n))
      (filter q (range_with_len (a + 1) n))) off_too)
]

pub range_parts : (a m n : ℕ) → range_with_len a (m + n)
    ≡ range_with_len a m ++ range_with_len (a + m) n
range_parts a zero n =
    let e : zero + n ≡ n = omega arith in
    let f : a + zero ≡ a = omega arith in
    ap (range_with_len a) e ∙ sym (ap (λ b. range_with_len b n) f)
range_parts a (suc m) n =
    let e : suc m + n ≡ suc (m + n) = omega arith in
    let f : a + suc m ≡ a + 1 + m = omega arith in
    ap (range_with_len a) e ∙ ap (λ rest. a ∷ rest) (range_parts (a + 1) m n)
    ∙ sym (ap (λ b. (a ∷ range_with_len (a + 1) m) ++ range_with_len b n) f)

pub filter_parts : (p : ℕ → Bool) (a m n : ℕ) → filter p (range_with_len a (m + n))
    ≡ filter p (range_with_len a m) ++ filter p (range_with_len (a + m) n)
filter_parts p a m n =
    ap (filter p) (range_parts a m n)
    ∙ filter-append p (range_with_len a m) (range_with_len (a + m) n)

-- Taking the lowest bit out of a word makes it smaller
module _ (word : ℕ) (some : 0 < word) (small : word < 2 ^ 64) where
  abbrev pub lowest_bit : ℕ
  lowest_bit = trailing_zeros w64 word

  abbrev pub without_lowest : ℕ
  without_lowest = bit_and word (bit_not w64 (1 * 2 ^ lowest_bit % 2 ^ 64))

  abbrev is_lowest : (lowest_bit < 64) × (bit_at word lowest_bit ≡ 1)
      × ((i : ℕ) → i < lowest_bit → bit_at word i ≡ 0)
  is_lowest = bit_at-trailing_zeros w64 word some small

  gone : bit_at without_lowest lowest_bit ≡ 0
  gone = bit_at_clear_same w64 word lowest_bit is_lowest.0

  kept : (k : ℕ) → k < 64 → (k ≡ lowest_bit → ⊥) → bit_at without_lowest k ≡ bit_at word k
  kept k within apart = bit_at_clear_other w64 word lowest_bit is_lowest.0 k within apart

  pub less_without : without_lowest < word
  less_without = elim (cases_eq without_lowest word) [
    | inl same ↦
        let both : bit_at without_lowest lowest_bit ≡ bit_at word lowest_bit =
        ap (λ x. bit_at x lowest_bit) same in
        absurd (omega (arith, both, gone, is_lowest.1))
    | inr apart ↦
        let le = and_le_l word (bit_not w64 (1 * 2 ^ lowest_bit % 2 ^ 64)) in
        omega (arith, le, apart)
  ]

  pub lowest_comes_first : (lowest : ℕ)
      → set_from lowest word ≡ (lowest + lowest_bit) ∷ set_from lowest without_lowest
  unfolding set_from
  lowest_comes_first lowest =
      filter_first (λ n. bit_at word (n - lowest) == 1)
      (λ n. bit_at without_lowest (n - lowest) == 1)
      lowest 64 (lowest + lowest_bit) (omega arith) (omega (arith, is_lowest.0)) set
      clear before others
    where
      place : lowest + lowest_bit - lowest ≡ lowest_bit
      place = omega arith

      set : (bit_at word (lowest + lowest_bit - lowest) == 1) ≡ true
      set = ap (λ k. bit_at word k == 1) place ∙ ap (λ b. b == 1) is_lowest.1

      clear : (bit_at without_lowest (lowest + lowest_bit - lowest) == 1) ≡ false
      clear = ap (λ k. bit_at without_lowest k == 1) place ∙ ap (λ b. b == 1) gone

      before : (k : ℕ) → lowest ≤ k → k < lowest + lowest_bit
          → (bit_at word (k - lowest) == 1) ≡ false
      before k low high = ap (λ b. b == 1) (is_lowest.2 (k - lowest) (omega (arith, low, high)))

      others : (k : ℕ) → lowest ≤ k → k < lowest + 64 → (k ≡ lowest + lowest_bit → ⊥)
          → (bit_at without_lowest (k - lowest) == 1) ≡ (bit_at word (k - lowest) == 1)
      others k low high apart =
          ap (λ b. b == 1) (kept (k - lowest) (omega (arith, low, high))
          (λ e. apart (omega (arith, e, low))))

pub none_of_zero : (lowest : ℕ) → set_from lowest 0 ≡ []
unfolding set_from
none_of_zero lowest =
    filter_none (λ n. bit_at 0 (n - lowest) == 1) lowest 64
    (λ k low high. ap (λ b. b == 1) (bit_at-zero (k - lowest)))

-- the numbers of the set bits are those that pass the test for which the bits stand
pub set_passes : (test : ℕ → Bool) (lowest word : ℕ)
    → ((n : ℕ) → lowest ≤ n → n < lowest + 64 → (bit_at word (n - lowest) == 1) ≡ test n)
    → set_from lowest word ≡ filter test (range_with_len lowest 64)
unfolding set_from
set_passes test lowest word each =
    filter_same (λ n. bit_at word (n - lowest) == 1) test lowest 64 each
