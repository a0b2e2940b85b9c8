-- Bits in words of 64.
use Rattle.regex_lite_engine.proofs.Common.{◌≡◌, ℕ, ◌-◌, ◌*◌, ◌^◌, ◌<◌, Bool, true, false, ◌↔◌}
use Rattle.regex_lite_engine.proofs.Common.{List, [], ◌∷◌, ◌++◌, length, replicate}
use Rattle.regex_lite_engine.proofs.Common.{◌==◌, slice_index, slice_index_or, slice_set, sym, refl}
use Rattle.regex_lite_engine.proofs.Common.{ap, ◌∙◌, subst, inl, inr, arith, length-set, cases_eq}
use Rattle.regex_lite_engine.proofs.Common.{cases_lt, nat_tests, get_or-replicate, get_or-set_other}
use Rattle.regex_lite_engine.proofs.Common.{get_or-set_same, get_or_past, length-replicate}
use Rattle.regex_lite_engine.proofs.Common.{length-map-range_with_len, bits_of}
use Rattle.regex_lite_engine.proofs.Common.{get_or-map-range_with_len}
use Rattle.std.proofs.Common.{◌/◌, ◌%◌, bit_and, bit_or}
use Rattle.std.proofs.lemmas.Nat.Bits.{bit_at-lt, shr_and_one}
use Rattle.std.specs.Int.{bit_at}
use Rattle.regex_lite_syntax.specs.AsciiMaps.{bit_of_words}
use Rattle.std.proofs.lemmas.List.{get_or_append_left, get_or-append_right}
use Rattle.std.proofs.lemmas.List.FromFn.{fill_by_all}
use Rattle.regex_lite_syntax.proofs.WordBitLemmas.{zero_at, zero_bit, words_with, set_bit}
use Rattle.regex_lite_syntax.proofs.WordBitLemmas.{other_bit}

-- whether bit k of the words is 1
abbrev is_set : List ℕ → ℕ → Bool
is_set words k = bit_of_words words k == 1

pub length_of_bits : (words : List ℕ) (count : ℕ) → length (bits_of words count) ≡ count
length_of_bits words count = length-map-range_with_len (is_set words) 0 count

bit_of_bits : (words : List ℕ) (count k : ℕ) → k < count
    → slice_index_or (bits_of words count) k false ≡ is_set words k
bit_of_bits words count k lt =
    get_or-map-range_with_len (is_set words) 0 count k k false lt (omega arith)

-- where each word is 0, no bit is set
pub none_of_zeros : (n count : ℕ) → bits_of (replicate n 0) count ≡ replicate count false
none_of_zeros n count =
    sym (fill_by_all (is_set (replicate n 0)) (replicate count false) count false
    (length-replicate count false) at_each)
  where
    at_each : (k : ℕ) → k < count
        → slice_index_or (replicate count false) k false ≡ is_set (replicate n 0) k
    at_each k lt =
        get_or-replicate count k false false lt
        ∙ sym (zero_bit n k)

-- zeros after them count as what is missing there
pub zeros_after : (words : List ℕ) (n i : ℕ)
    → slice_index (words ++ replicate n 0) i ≡ slice_index words i
zeros_after words n i = elim (cases_lt i (length words)) [
  | inl lt ↦ get_or_append_left words (replicate n 0) 0 i lt
  | inr le ↦
      get_or-append_right words (replicate n 0) (length words) i 0 refl le
      ∙ zero_at n (i - length words)
      ∙ sym (get_or_past words i 0 le)
]

-- words of zeros after them change no bit
pub bits_before_zeros : (words : List ℕ) (n count : ℕ)
    → bits_of (words ++ replicate n 0) count ≡ bits_of words count
bits_before_zeros words n count =
    sym (fill_by_all (is_set (words ++ replicate n 0)) (bits_of words count) count false
    (length_of_bits words count) at_each)
  where
    at_each : (k : ℕ) → k < count
        → slice_index_or (bits_of words count) k false ≡ is_set (words ++ replicate n 0) k
    at_each k lt =
        bit_of_bits words count k lt
        ∙ sym (ap (λ word. bit_at word (k % 64) == 1) (zeros_after words n (k / 64)))

-- what `1 << k % 64` sets in a word
pub set_by_mask : (words : List ℕ) (count k : ℕ) → k < 64 * length words → k < count
    → bits_of (slice_set words (k / 64)
    (bit_or (slice_index words (k / 64)) (1 * 2 ^ (k % 64) % 2 ^ 64))) count
    ≡ slice_set (bits_of words count) k true
set_by_mask words count k inside lt =
    sym (fill_by_all (is_set (words_with words k inside)) (slice_set bits k true) count false
    (length-set bits k true ∙ length_of_bits words count) at_each)
  where
    bits : List Bool
    bits = bits_of words count

    at_each : (l : ℕ) → l < count
        → slice_index_or (slice_set bits k true) l false ≡ is_set (words_with words k inside) l
    at_each l below = elim (cases_eq l k) [
      | inl same ↦
          ap (λ i. slice_index_or (slice_set bits k true) i false) same
          ∙ get_or-set_same bits k true false (omega (arith, lt, length_of_bits words count))
          ∙ sym (ap (is_set (words_with words k inside)) same
          ∙ ap (λ bit. bit == 1) (set_bit words k inside))
      | inr other ↦
          get_or-set_other bits k l true false other
          ∙ bit_of_bits words count l below
          ∙ sym (ap (λ bit. bit == 1) (other_bit words k inside l other))
    ]

-- what is new in a word is found by a shift
pub new_by_shift : (words : List ℕ) (count i : ℕ) → i < count
    → (bit_and (slice_index words (i / 64) / 2 ^ (i % 64)) 1 ≡ 0)
    ↔ (slice_index_or (bits_of words count) i false ≡ false)
new_by_shift words count i lt =
    let bit = bit_at-lt (slice_index words (i / 64)) (i % 64) in
    rw (bit_of_bits words count i lt, shr_and_one) (grind (arith, nat_tests, bit))

-- one word
module _ (word count k : ℕ) (inside : k < 64) (lt : k < count) where
  first : k / 64 ≡ 0
  first = omega (arith, inside)

  there : k % 64 ≡ k
  there = omega (arith, inside)

  pub new_in_word :
      (bit_and (word / 2 ^ k) 1 ≡ 0) ↔ (slice_index_or (bits_of (word ∷ []) count) k false ≡ false)
  new_in_word =
      subst (λ i. (bit_and (word / 2 ^ i) 1 ≡ 0)
      ↔ (slice_index_or (bits_of (word ∷ []) count) k false ≡ false)) there
      (subst (λ w. (bit_and (slice_index (word ∷ []) w / 2 ^ (k % 64)) 1 ≡ 0)
      ↔ (slice_index_or (bits_of (word ∷ []) count) k false ≡ false)) first
      (new_by_shift (word ∷ []) count k lt))

  pub set_in_word : bits_of (bit_or word (1 * 2 ^ k % 2 ^ 64) ∷ []) count
      ≡ slice_set (bits_of (word ∷ []) count) k true
  set_in_word =
      subst (λ i. bits_of (bit_or word (1 * 2 ^ i % 2 ^ 64) ∷ []) count
      ≡ slice_set (bits_of (word ∷ []) count) k true) there
      (subst (λ w. bits_of (slice_set (word ∷ []) w
      (bit_or (slice_index (word ∷ []) w) (1 * 2 ^ (k % 64) % 2 ^ 64))) count
      ≡ slice_set (bits_of (word ∷ []) count) k true) first
      (set_by_mask (word ∷ []) count k (omega (arith, inside)) lt))
