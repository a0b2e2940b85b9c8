-- The masks of third characters.
use Rattle.regex_lite_syntax.proofs.Common.{◌≡◌, ℕ, suc, ◌-◌, ◌*◌, ◌%◌, ◌^◌, Bool, true, false}
use Rattle.regex_lite_syntax.proofs.Common.{cond, ◌&&◌, ◌||◌, List, [], ◌∷◌, is_none, IsTrue, ◌==◌}
use Rattle.regex_lite_syntax.proofs.Common.{slice_get, bit_or, Some, None, Option, sym, refl, ap}
use Rattle.regex_lite_syntax.proofs.Common.{◌∙◌, inl, inr, arith, cases_eq, bit_at, Text, after}
use Rattle.regex_lite_syntax.proofs.Common.{Tree, Matches, begins_with, may_begin, in_mask}
use Rattle.regex_lite_syntax.proofs.Common.{FirstSet}
use Rattle.std.proofs.Common.{filter}
use Rattle.std.proofs.lemmas.Option.{slice_get_past}
use Rattle.regex_lite_syntax.specs.Prefilter.ThirdMasks.{may_go_on}
use Rattle.std.proofs.Common.{w32}
use Rattle.std.proofs.lemmas.Nat.Bits.{bit_at_ones, bit_at_set_same, bit_at_set_other}
use Rattle.std.proofs.lemmas.Option.{slice_get_cases, none-some}
use Rattle.regex_lite_syntax.specs.declared.prefilter.prefix_index.third_masks.ThirdMasks.{ThirdMasks}
use Rattle.regex_lite_syntax.specs.Prefilter.ThirdMasks.{in_some_mask, IsThirdOfTree}

pub all_in_mask : (c : ℕ) → in_mask (2 ^ 32 - 1) c ≡ true
all_in_mask c = ap (λ bit. bit == 1) (bit_at_ones 32 (c % 32) (omega arith))

-- a character that is added is in the mask, and so is each that was in it
module _ (mask code c : ℕ) where
  abbrev more : ℕ
  more = bit_or mask (1 * 2 ^ (code % 32) % 2 ^ 32)

  pub added : c % 32 ≡ code % 32 → in_mask more c ≡ true
  added same =
      ap (λ k. bit_at more k == 1) same
      ∙ ap (λ bit. bit == 1) (bit_at_set_same w32 mask (code % 32) (omega arith))

  pub kept : in_mask mask c ≡ true → in_mask more c ≡ true
  kept there = elim (cases_eq (c % 32) (code % 32)) [
    | inl same ↦ added same
    | inr apart ↦
        ap (λ bit. bit == 1)
        (bit_at_set_other w32 mask (code % 32) (omega arith) (c % 32) apart)
        ∙ there
  ]

-- a pattern that may not go on with the third character doesn't match
pub stuck_matches : (third_masks : ThirdMasks) (k : ℕ) (tree : Tree)
    → ((mask : ℕ) → slice_get third_masks.masks.items k ≡ Some mask → IsThirdOfTree tree mask)
    → (haystack : Text) (i : ℕ)
    → may_go_on third_masks (after haystack (suc (suc i))) k ≡ false
    → (j : ℕ) → Matches haystack tree i j → ⊥
stuck_matches third_masks k tree reported h i off j m = by_third (after h (suc (suc i))) refl off
  where
    by_mask : (o : Option ℕ) → slice_get third_masks.masks.items k ≡ o → (c : ℕ)
        → after h (suc (suc i)) ≡ Some c → in_some_mask o c ≡ false → ⊥
    by_mask None is c third e = cc
    by_mask (Some mask) is c third e = cc (reported mask is h i j c m third)

    by_third : (o : Option ℕ) → after h (suc (suc i)) ≡ o → may_go_on third_masks o k ≡ false → ⊥
    by_third None third e = cc
    by_third (Some c) third e = by_mask (slice_get third_masks.masks.items k) refl c third e

-- after the end there is none
pub none_later : (h : Text) (p : ℕ) → after h p ≡ None → after h (suc p) ≡ None
none_later h p end = elim (slice_get_cases h p).1 [
  | inl (c, inside, there, same) ↦ absurd (none-some c (sym end ∙ there))
  | inr (beyond, none) ↦ slice_get_past h (suc p) (omega (arith, beyond))
]

-- those that pass one test and then another
pub filter_twice : (f g : ℕ → Bool) (numbers : List ℕ)
    → filter g (filter f numbers) ≡ filter (λ k. f k && g k) numbers
filter_twice f g [] = refl
filter_twice f g (k ∷ numbers) = by_first (f k) (filter_twice f g numbers)
  where
    by_first : (b : Bool) → filter g (filter f numbers) ≡ filter (λ n. f n && g n) numbers
        → filter g (cond b (k ∷ filter f numbers) (filter f numbers))
        ≡ cond (b && g k) (k ∷ filter (λ n. f n && g n) numbers) (filter (λ n. f n && g n) numbers)
    by_first true rest = by_second (g k) rest
      where
        by_second : (b : Bool) → filter g (filter f numbers) ≡ filter (λ n. f n && g n) numbers
            → cond b (k ∷ filter g (filter f numbers)) (filter g (filter f numbers))
            ≡ cond b (k ∷ filter (λ n. f n && g n) numbers) (filter (λ n. f n && g n) numbers)
        by_second true e = ap (λ xs. k ∷ xs) e
        by_second false e = e
    by_first false rest = rest

-- none is left out where there is no third character
pub all_go_on : (third_masks : ThirdMasks) (numbers : List ℕ)
    → numbers ≡ filter (may_go_on third_masks None) numbers
all_go_on third_masks [] = refl
all_go_on third_masks (k ∷ numbers) = ap (λ rest. k ∷ rest) (all_go_on third_masks numbers)

-- where the haystack's start alone doesn't do, a match begins with the character
pub begins_by_character : (starts : FirstSet) (b : Option ℕ) (c : ℕ) → starts.at_start ≡ false
    → IsTrue (may_begin starts b (Some c)) → begins_with starts c ≡ true
begins_by_character starts b c off may = by_parts (begins_with starts c) starts.at_start off may
  where
    by_parts : (x y : Bool) → y ≡ false → IsTrue (x || (y && is_none b)) → x ≡ true
    by_parts true y e may = refl
    by_parts false true e may = cc
    by_parts false false e may = absurd cc
