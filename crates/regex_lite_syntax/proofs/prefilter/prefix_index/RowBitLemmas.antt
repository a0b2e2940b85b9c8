-- The bits of rows: of which word each is, and what setting one changes.
use Rattle.regex_lite_syntax.proofs.Common.{◌≡◌, ℕ, ◌+◌, ◌-◌, ◌*◌, ◌/◌, ◌%◌, ◌^◌, ◌<◌, ◌≤◌, ◌&&◌}
use Rattle.regex_lite_syntax.proofs.Common.{◌||◌, List, length, ◌==◌, slice_index, slice_set}
use Rattle.regex_lite_syntax.proofs.Common.{bit_or, refl, ap, inl, inr, arith, cases_eq, nat_tests}
use Rattle.regex_lite_syntax.proofs.Common.{bit_of_words}
use Rattle.std.proofs.lemmas.Nat.{same_from_place}
use Rattle.regex_lite_syntax.proofs.WordBitLemmas.{bit_reported}

-- bit n of row r stands in this word of the row
pub word_of_bit : (row_word n k : ℕ) → 64 * k ≤ n → n < 64 * (k + 1)
    → ((64 * row_word + n) / 64 ≡ row_word + k) × ((64 * row_word + n) % 64 ≡ n - 64 * k)
word_of_bit x n k low high = (omega (arith, low, high), omega (arith, low, high))

same_bit : (n number r row l k : ℕ) → (l ≡ k → (r ≡ row) × (n ≡ number))
    → (n ≡ number → r ≡ row → l ≡ k) → (l == k) ≡ (n == number && r == row)
same_bit n number r row l k apart same = elim (cases_eq l k) [
  | inl e ↦ let parts = apart e in grind (arith, nat_tests, e, parts.0, parts.1)
  | inr differ ↦ grind (arith, nat_tests, differ, same)
]

-- a bit of a row is set, and the others of the rows are as they were
pub bit_is_set : (words : List ℕ) (w row number : ℕ) → row * w + number / 64 < length words
    → number < 64 * w → (r n : ℕ) → n < 64 * w
    → (bit_of_words (slice_set words (row * w + number / 64)
    (bit_or (slice_index words (row * w + number / 64))
    (1 * 2 ^ (number % 64) % 18446744073709551616))) (64 * (r * w) + n) == 1)
    ≡ ((bit_of_words words (64 * (r * w) + n) == 1) || (n == number && r == row))
bit_is_set words w row number inside number_in r n n_in =
    let k = 64 * (row * w) + number in
    let l = 64 * (r * w) + n in
    let at : row * w + number / 64 ≡ k / 64 = omega arith in
    let place : number % 64 ≡ k % 64 = omega arith in
    let one = bit_reported words k (omega (arith, inside)) l in
    let same = same_bit n number r row l k
    (λ e. same_from_place r n row number (64 * w) n_in number_in (omega (arith, e)))
    (λ e f. omega (arith, e, ap (λ z. z * w) f)) in
    rw (at, place, one, same) refl
