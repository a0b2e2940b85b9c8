-- Sets of ASCII characters as bits of two words, and a set for each first character.
use Rattle.regex_lite_syntax.proofs.Common.{◌≡◌, ℕ, zero, suc, ◌+◌, ◌*◌, ◌/◌, ◌%◌, ◌^◌, ◌<◌, ◌≤◌}
use Rattle.regex_lite_syntax.proofs.Common.{Bool, true, false, ◌&&◌, ◌||◌, List, [], ◌∷◌, length}
use Rattle.regex_lite_syntax.proofs.Common.{replicate, nat_lt, ◌==◌, slice_get, slice_index}
use Rattle.regex_lite_syntax.proofs.Common.{slice_set, bit_or, Some, sym, refl, ap, ◌∙◌, inl, inr}
use Rattle.regex_lite_syntax.proofs.Common.{arith, or-false, cases_eq, cases_lt, nat_tests, bit_at}
use Rattle.regex_lite_syntax.proofs.Common.{bit_of_words, in_set, begins_with_pair, PrefixSets}
use Rattle.regex_lite_syntax.specs.declared.prefilter.prefix_index.ascii_set.AsciiSet.{AsciiSet}
use Rattle.regex_lite_syntax.specs.Prefilter.Pairs.{in_some_set}
use Rattle.regex_lite_syntax.proofs.LookupLemmas.{set_elsewhere, set_here}
use Rattle.regex_lite_syntax.proofs.prefilter.prefix_index.WalkLemmas.{bit_of_either}
use Rattle.regex_lite_syntax.proofs.WordBitLemmas.{bit_reported, zero_bit}

-- two words with one bit
pub just_one : (code : ℕ) → code < 128 → (other : ℕ) → other < 128
    → (bit_of_words (slice_set (0 ∷ (0 ∷ [])) (code / 64)
    (bit_or (slice_index (0 ∷ (0 ∷ [])) (code / 64))
    (1 * 2 ^ (code % 64) % 18446744073709551616))) other == 1) ≡ (other == code)
just_one code code_in other other_in =
    bit_reported (0 ∷ (0 ∷ [])) code code_in other ∙ ap (λ b. b || other == code) (zero_bit 2 other)

-- each word of two has the bits of both
pub both_added : (xs ys : List ℕ) (code : ℕ) → code < 128
    → (bit_of_words (bit_or (slice_index xs 0) (slice_index ys 0)
    ∷ (bit_or (slice_index xs 1) (slice_index ys 1) ∷ [])) code == 1)
    ≡ ((bit_of_words xs code == 1) || (bit_of_words ys code == 1))
both_added xs ys code code_in = elim (cases_lt code 64) [
  | inl lt ↦ in_word 0 refl (omega (arith, lt))
  | inr le ↦ in_word 1 refl (omega (arith, le, code_in))
]
  where
    words : List ℕ
    words = bit_or (slice_index xs 0) (slice_index ys 0)
        ∷ (bit_or (slice_index xs 1) (slice_index ys 1) ∷ [])

    in_word : (k : ℕ) → slice_index words k ≡ bit_or (slice_index xs k) (slice_index ys k)
        → code / 64 ≡ k → (bit_of_words words code == 1)
        ≡ ((bit_of_words xs code == 1) || (bit_of_words ys code == 1))
    in_word k word e =
        ap (λ k. bit_at (slice_index words k) (code % 64) == 1) e
        ∙ ap (λ z. bit_at z (code % 64) == 1) word
        ∙ bit_of_either (slice_index xs k) (slice_index ys k) (code % 64)
        ∙ sym (ap (λ k. (bit_at (slice_index xs k) (code % 64) == 1)
        || (bit_at (slice_index ys k) (code % 64) == 1)) e)

-- no pair is in sets that are all empty
pub no_pair : (n : ℕ) (set : AsciiSet) (a b : ℕ) → in_set set b ≡ false
    → in_some_set (slice_get (replicate n set) a) b ≡ false
no_pair zero set a b off = refl
no_pair (suc n) set zero b off = off
no_pair (suc n) set (suc a) b off = no_pair n set a b off

-- none of as many first characters from this one on is that of a pair
pub row_passed : (first many a : ℕ) (before pair : Bool)
    → (first ≤ a → a < first + many → pair ≡ false)
    → (before || (nat_lt a first && pair)) ≡ (before || (nat_lt a (first + many) && pair))
row_passed first many a before pair none = elim (cases_lt a first) [
  | inl less ↦
      let one : nat_lt a first ≡ true = grind (arith, nat_tests) in
      let other : nat_lt a (first + many) ≡ true = grind (arith, nat_tests) in
      ap (λ b. before || (b && pair)) (one ∙ sym other)
  | inr le ↦ elim (cases_lt a (first + many)) [
    | inl inside ↦
        let one : nat_lt a first ≡ false = grind (arith, nat_tests) in
        let other : nat_lt a (first + many) ≡ true = grind (arith, nat_tests) in
        ap (λ b. before || (b && pair)) one
        ∙ sym (ap (λ b. before || (b && pair)) other ∙ ap (λ p. before || p) (none le inside))
    | inr beyond ↦
        let one : nat_lt a first ≡ false = grind (arith, nat_tests) in
        let other : nat_lt a (first + many) ≡ false = grind (arith, nat_tests) in
        ap (λ b. before || (b && pair)) (one ∙ sym other)
  ]
]

-- The pairs with one first character more. Those of the first characters below it were added before
module _ (before : ℕ → ℕ → Bool) (part : PrefixSets) (first : ℕ) where
  abbrev pub AddedBelow : (end : ℕ) → List AsciiSet → Type 0
  AddedBelow end pairs = (a b : ℕ) → a < 128 → b < 128
      → in_some_set (slice_get pairs a) b
      ≡ (before a b || (nat_lt a end && begins_with_pair a b part))

  here_before : (b : ℕ) → (before first b || (nat_lt first first && begins_with_pair first b part))
      ≡ before first b
  here_before b =
      let off : nat_lt first first ≡ false = grind (arith, nat_tests) in
      ap (λ t. before first b || (t && begins_with_pair first b part)) off
      ∙ or-false (before first b)

  here_after : (b : ℕ) → (before first b || begins_with_pair first b part)
      ≡ (before first b || (nat_lt first (first + 1) && begins_with_pair first b part))
  here_after b =
      let on : nat_lt first (first + 1) ≡ true = grind (arith, nat_tests) in
      sym (ap (λ t. before first b || (t && begins_with_pair first b part)) on)

  -- where no match begins with it
  pub none_more : (pairs : List AsciiSet) → AddedBelow first pairs
      → ((b : ℕ) → begins_with_pair first b part ≡ false) → AddedBelow (first + 1) pairs
  none_more pairs so_far off a b a_in b_in =
      so_far a b a_in b_in ∙ row_passed first 1 a (before a b) (begins_with_pair a b part)
      (λ low high. let same : a ≡ first = omega (arith, low, high) in
      ap (λ k. begins_with_pair k b part) same ∙ off b)

  -- where one may, its set has what may come second
  pub one_more : (pairs : List AsciiSet) (old new : AsciiSet) → first < length pairs
      → slice_get pairs first ≡ Some old → AddedBelow first pairs
      → ((b : ℕ) → b < 128 → in_set new b ≡ (in_set old b || begins_with_pair first b part))
      → AddedBelow (first + 1) (slice_set pairs first new)
  one_more pairs old new inside is so_far added a b a_in b_in = elim (cases_eq a first) [
    | inr apart ↦
        ap (λ o. in_some_set o b) (set_elsewhere pairs first a new apart)
        ∙ so_far a b a_in b_in ∙ row_passed first 1 a (before a b) (begins_with_pair a b part)
        (λ low high. absurd (apart (omega (arith, low, high))))
    | inl same ↦
        let first_in : first < 128 = omega (arith, same, a_in) in
        ap (λ k. in_some_set (slice_get (slice_set pairs first new) k) b) same
        ∙ ap (λ o. in_some_set o b) (set_here pairs first new inside)
        ∙ added b b_in
        ∙ ap (λ t. t || begins_with_pair first b part)
        (sym (ap (λ o. in_some_set o b) is) ∙ so_far first b first_in b_in ∙ here_before b)
        ∙ here_after b
        ∙ sym (ap (λ k. before k b || (nat_lt k (first + 1) && begins_with_pair k b part)) same)
  ]
