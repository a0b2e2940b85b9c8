-- The bits of words of 64: those of words that are 0, and those where one bit is set.
use Rattle.regex_lite_syntax.proofs.Common.{◌≡◌, ℕ, ◌*◌, ◌/◌, ◌%◌, ◌^◌, ◌<◌, false, ◌||◌, List}
use Rattle.regex_lite_syntax.proofs.Common.{length, replicate, ◌==◌, slice_index, slice_set, bit_or}
use Rattle.regex_lite_syntax.proofs.Common.{sym, ap, ◌∙◌, inl, inr, arith, cases_eq, cases_lt}
use Rattle.regex_lite_syntax.proofs.Common.{nat_tests, get_or-set_other, bit_at, bit_of_words}
use Rattle.std.proofs.lemmas.List.{get_or-replicate, get_or-set_same, get_or_past, length-replicate}
use Rattle.std.proofs.Common.{w64}
use Rattle.std.proofs.lemmas.Nat.Bits.{bit_at-zero, bit_at_set_same, bit_at_set_other}

pub zero_at : (n i : ℕ) → slice_index (replicate n 0) i ≡ 0
zero_at n i = elim (cases_lt i n) [
  | inl lt ↦ get_or-replicate n i 0 0 lt
  | inr le ↦ get_or_past (replicate n 0) i 0 (omega (arith, le, length-replicate {A = ℕ} n 0))
]

pub zero_bit : (n k : ℕ) → (bit_of_words (replicate n 0) k == 1) ≡ false
zero_bit n k =
    ap (λ word. bit_at word (k % 64) == 1) (zero_at n (k / 64))
    ∙ ap (λ bit. bit == 1) (bit_at-zero (k % 64))

reported_set : (x y l k : ℕ) → x ≡ 1 → l ≡ k → (x == 1) ≡ ((y == 1) || l == k)
reported_set x y l k set same = grind (arith, nat_tests)

reported_kept : (x y l k : ℕ) → x ≡ y → (l ≡ k → ⊥) → (x == 1) ≡ ((y == 1) || l == k)
reported_kept x y l k kept apart = grind (arith, nat_tests)

-- bit k is set, and the others are as they were
module _ (words : List ℕ) (k : ℕ) (inside : k < 64 * length words) where
  abbrev word : ℕ
  word = bit_or (slice_index words (k / 64)) (1 * 2 ^ (k % 64) % 2 ^ 64)

  abbrev pub words_with : List ℕ
  words_with = slice_set words (k / 64) word

  same_word : slice_index words_with (k / 64) ≡ word
  same_word = get_or-set_same words (k / 64) word 0 (omega (arith, inside))

  pub set_bit : bit_of_words words_with k ≡ 1
  set_bit =
      ap (λ w. bit_at w (k % 64)) same_word
      ∙ bit_at_set_same w64 (slice_index words (k / 64)) (k % 64) (omega arith)

  pub other_bit : (l : ℕ) → (l ≡ k → ⊥) → bit_of_words words_with l ≡ bit_of_words words l
  other_bit l other = elim (cases_eq (l / 64) (k / 64)) [
    | inl same ↦
        ap (λ i. bit_at (slice_index words_with i) (l % 64)) same
        ∙ ap (λ w. bit_at w (l % 64)) same_word
        ∙ bit_at_set_other w64 (slice_index words (k / 64)) (k % 64) (omega arith) (l % 64)
        (λ e. other (omega (arith, e, same)))
        ∙ ap (λ i. bit_at (slice_index words i) (l % 64)) (sym same)
    | inr apart ↦
        ap (λ w. bit_at w (l % 64)) (get_or-set_other words (k / 64) (l / 64) word 0 apart)
  ]

  pub bit_reported : (l : ℕ)
      → (bit_of_words words_with l == 1) ≡ ((bit_of_words words l == 1) || l == k)
  bit_reported l = elim (cases_eq l k) [
    | inl same ↦
        let set = ap (bit_of_words words_with) same ∙ set_bit in
        reported_set (bit_of_words words_with l) (bit_of_words words l) l k set same
    | inr apart ↦
        reported_kept (bit_of_words words_with l) (bit_of_words words l) l k (other_bit l apart)
        apart
  ]
