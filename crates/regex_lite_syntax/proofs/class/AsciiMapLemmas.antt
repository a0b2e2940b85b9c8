-- The bits of maps of ASCII characters.
use Rattle.regex_lite_syntax.proofs.Common.{◌≡◌, ℕ, zero, suc, ◌+◌, ◌-◌, ◌*◌, ◌/◌, ◌%◌, ◌^◌, ◌<◌}
use Rattle.regex_lite_syntax.proofs.Common.{Bool, true, false, ◌||◌, List, [], ◌∷◌, length, get_or}
use Rattle.regex_lite_syntax.proofs.Common.{take, IsTrue, ◌==◌, sym, refl, ap, ◌∙◌, inl, inr, arith}
use Rattle.regex_lite_syntax.proofs.Common.{nat_tests, in_ranges, next_character, AreRuns, span}
use Rattle.regex_lite_syntax.proofs.Common.{ClassRange}
use Rattle.std.proofs.Common.{bit_and, bit_or}
use Rattle.std.specs.Int.{bit_at}
use Rattle.std.specs.Char.{is_ascii}
use Rattle.std.proofs.lemmas.Bool.{cases_lt}
use Rattle.std.proofs.lemmas.Nat.{shr-shr}
use Rattle.std.proofs.lemmas.Nat.Bits.{ones_shl, ones_shr, bit_at_and, bit_at_or}
use Rattle.std.proofs.lemmas.Nat.Bits.{bit_at-lt, bit_at_cat_low, bit_at_mask_inside}
use Rattle.std.proofs.lemmas.Nat.Bits.{bit_at_mask_below, bit_at_ones, bit_at_ones_above}
use Rattle.regex_lite_syntax.specs.Characters.{is_between}
use Rattle.regex_lite_syntax.proofs.RangeLemmas.{next_above, runs_from}
use Rattle.regex_lite_syntax.specs.AsciiMaps.{bit_of_words}

-- `MAX << start & MAX >> (127 - end)` has the ones from the start to the end
pub bits_between : (start end c : ℕ) → start < 128 → end < 128 → c < 128
    → (bit_at (bit_and ((2 ^ 128 - 1) * 2 ^ start % 2 ^ 128) ((2 ^ 128 - 1) / 2 ^ (127 - end))) c
    == 1) ≡ is_between start end c
bits_between start end c starts ends within =
    let from : (2 ^ 128 - 1) * 2 ^ start % 2 ^ 128 ≡ 2 ^ 128 - 2 ^ start =
    ones_shl 128 start (omega arith) in
    let to : (2 ^ 128 - 1) / 2 ^ (127 - end) ≡ 2 ^ (128 - (127 - end)) - 1 =
    ones_shr 128 (127 - end) (omega arith) in
    let exponent : 128 - (127 - end) ≡ end + 1 = omega arith in
    rw (from, to, exponent, bit_at_and) (elim (cases_lt c start) [
      | inl before ↦ rw (bit_at_mask_below start 128 c before) (grind (arith, nat_tests))
      | inr at ↦ rw (bit_at_mask_inside start 128 c at within)
          (elim (cases_lt end c) [
            | inl past ↦
                rw (bit_at_ones_above (end + 1) c (omega arith)) (grind (arith, nat_tests))
            | inr upto ↦ rw (bit_at_ones (end + 1) c (omega arith)) (grind (arith, nat_tests))
          ])
    ])

-- the ones of either number
pub bits_of_either : (a b c : ℕ)
    → (bit_at (bit_or a b) c == 1) ≡ ((bit_at a c == 1) || (bit_at b c == 1))
bits_of_either a b c =
    let bit_of_a : bit_at a c < 2 = bit_at-lt a c in
    let bit_of_b : bit_at b c < 2 = bit_at-lt b c in
    rw bit_at_or (grind (arith, nat_tests))

-- a number in two words
pub bits_of_words : (map c : ℕ) → c < 128
    → bit_of_words (map % 2 ^ 64 ∷ map / 2 ^ 64 ∷ []) c ≡ bit_at map c
bits_of_words map c within = elim (cases_lt c 64) [
  | inl low ↦
      let word : c / 64 ≡ 0 = omega arith in
      let bit : c % 64 ≡ c = omega arith in
      let parts : map ≡ map / 2 ^ 64 * 2 ^ 64 + map % 2 ^ 64 = omega arith in
      rw (word, bit) (sym (bit_at_cat_low (map / 2 ^ 64) 64 (map % 2 ^ 64) c low)
      ∙ ap (λ n. bit_at n c) (sym parts))
  | inr high ↦
      let word : c / 64 ≡ 1 = omega arith in
      let bit : c % 64 ≡ c - 64 = omega arith in
      let whole : 64 + (c - 64) ≡ c = omega arith in
      rw (word, bit) (ap (λ n. n % 2) (shr-shr map 64 (c - 64)) ∙ ap (bit_at map) whole)
]

not_held : (held : Bool) → (IsTrue held → ⊥) → held ≡ false
not_held true never = absurd (never refl)
not_held false never = refl

-- the ranges from one on that starts after the character do not hold it
pub held_before : (n : ℕ) (ranges : List ClassRange) (i c : ℕ) (d : ClassRange) → AreRuns n ranges
    → i < length ranges → c < (get_or ranges i d).start
    → in_ranges ranges c ≡ in_ranges (take i ranges) c
held_before n [] i c d runs inside below = absurd (omega (arith, inside))
held_before n (r ∷ ranges) zero c d runs inside below =
    let later = runs_from (next_character r.end + 1) ranges c runs.4 in
    let above = next_above r.end in
    let rest : in_ranges ranges c ≡ false =
    not_held (in_ranges ranges c) (λ held. omega (later held, above, below, runs.3, arith)) in
    grind (arith, nat_tests)
held_before n (r ∷ ranges) (suc i) c d runs inside below =
    ap (λ held. span r.start r.end c || held)
    (held_before (next_character r.end + 1) ranges i c d runs.4 (omega (arith, inside)) below)

-- what is not ASCII stands after what is
pub past_ascii : (c d : ℕ) → d < 128 → is_ascii c ≡ false → d < c
past_ascii c d within past = grind (arith, nat_tests)
