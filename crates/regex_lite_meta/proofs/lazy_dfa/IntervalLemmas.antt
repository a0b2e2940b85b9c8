-- Characters of one interval are in the same sets.
use Rattle.regex_lite_meta.proofs.Common.{◌≡◌, ℕ, suc, ◌+◌, ◌-◌, ◌<◌, ◌≤◌, Bool, true, false, not}
use Rattle.regex_lite_meta.proofs.Common.{List, [], ◌∷◌, length, drop, ◌==◌, slice_index, All, sym}
use Rattle.regex_lite_meta.proofs.Common.{refl, ap, ◌∙◌, inl, inr, arith, cases_lt, nat_tests}
use Rattle.regex_lite_meta.proofs.Common.{interval_of, IsBoundary, AreBounded, character_bounds}
use Rattle.regex_lite_meta.specs.LazyDfa.Intervals.{tick}
use Rattle.std.proofs.Math.Seq.{drop-cons}
use Rattle.std.proofs.Common.{◌&&◌, ◌||◌, nat_le}
use Rattle.regex_lite_syntax.specs.Ranges.{in_ranges}
use Rattle.regex_lite_syntax.specs.declared.class.ClassRange.{ClassRange}
use Rattle.std.proofs.lemmas.List.{length-drop}
use Rattle.regex_lite_syntax.specs.Characters.{is_character, is_between}
use Rattle.regex_lite_syntax.specs.Sets.{span}

tick_most : (x y : Bool) → (x ≡ true → y ≡ true) → tick x ≤ tick y
tick_most true y f = let e : tick y ≡ 1 = ap (λ b. tick b) (f refl) in omega (arith, e)
tick_most false y f = omega arith

more_le : (b c d : ℕ) → c ≤ d → nat_le b c ≡ true → nat_le b d ≡ true
more_le b c d le e = grind (arith, nat_tests)

interval_most : (bs : List ℕ) (c d : ℕ) → c ≤ d → interval_of bs c ≤ interval_of bs d
interval_most [] c d le = omega arith
interval_most (b ∷ bs) c d le =
    let one = tick_most (nat_le b c) (nat_le b d) (more_le b c d le) in
    let rest = interval_most bs c d le in omega (arith, one, rest)

ticked : (b c : ℕ) → b ≤ c → tick (nat_le b c) ≡ 1
ticked b c le = ap (λ x. tick x) (yes b c le)
  where
    yes : (b c : ℕ) → b ≤ c → nat_le b c ≡ true
    yes b c le = grind (arith, nat_tests)

not_ticked : (b c : ℕ) → c < b → tick (nat_le b c) ≡ 0
not_ticked b c lt = ap (λ x. tick x) (no b c lt)
  where
    no : (b c : ℕ) → c < b → nat_le b c ≡ false
    no b c lt = grind (arith, nat_tests)

-- a boundary between them
interval_less : (bs : List ℕ) (b c d : ℕ) → IsBoundary bs b → c < b → b ≤ d
    → interval_of bs c < interval_of bs d
interval_less [] b c d among lt le = absurd among
interval_less (x ∷ bs) b c d (inl e) lt le =
    let none = not_ticked x c (omega (arith, e, lt)) in
    let one = ticked x d (omega (arith, e, le)) in
    let rest = interval_most bs c d (omega (arith, lt, le)) in omega (arith, none, one, rest)
interval_less (x ∷ bs) b c d (inr among) lt le =
    let one = tick_most (nat_le x c) (nat_le x d) (more_le x c d (omega (arith, lt, le))) in
    let rest = interval_less bs b c d among lt le in omega (arith, one, rest)

-- no boundary lies between them
pub same_context : (bs : List ℕ) (c d : ℕ) → interval_of bs c ≡ interval_of bs d → (b : ℕ)
    → IsBoundary bs b → b ≤ c → b ≤ d
same_context bs c d e b among le = elim (cases_lt d b) [
  | inl lt ↦ absurd (let less = interval_less bs b d c among lt le in omega (arith, less, e))
  | inr within ↦ within
]

pub same_test : (bs : List ℕ) (c d : ℕ) → interval_of bs c ≡ interval_of bs d → (b : ℕ)
    → IsBoundary bs b → nat_le b c ≡ nat_le b d
same_test bs c d e b among =
    let on = same_context bs c d e b among in
    let back = same_context bs d c (sym e) b among in
    grind (arith, nat_tests, on, back)

-- no more than there are
pub interval_within : (bs : List ℕ) (c : ℕ) → interval_of bs c ≤ length bs
interval_within [] c = omega arith
interval_within (b ∷ bs) c =
    let one = tick_most (nat_le b c) true (λ e. refl) in let rest = interval_within bs c in
    omega (arith, one, rest)

-- boundaries are left
pub interval_after : (bs : List ℕ) (k c : ℕ) → interval_of (drop k bs) c ≤ length bs - k
interval_after bs k c =
    let within = interval_within (drop k bs) c in let left = length-drop k bs in
    omega (arith, within, left)

-- the next boundary from the end on
pub interval_cons : (bs : List ℕ) (k c : ℕ) → k < length bs
    → interval_of (drop k bs) c
    ≡ tick (nat_le (slice_index bs k) c) + interval_of (drop (suc k) bs) c
interval_cons bs k c lt = ap (λ rest. interval_of rest c) (drop-cons bs k 0 lt)

-- what is counted from the end on, boundary by boundary
pub ruleset interval_steps = (interval_cons, interval_after)

module _ (bs : List ℕ) (c d : ℕ) (e : interval_of bs c ≡ interval_of bs d) where
  between_tests : (start end c : ℕ)
      → is_between start end c ≡ (nat_le start c && not (nat_le (end + 1) c))
  between_tests start end c =
      by_values (is_between start end c) (nat_le start c) (nat_le (end + 1) c)
      (grind (arith, nat_tests))
    where
      by_values : (x y z : Bool) → x ≡ (y && not z) → x ≡ (y && not z)
      by_values x y z e = e

  -- a run between two boundaries
  pub same_between : (start end : ℕ) → IsBoundary bs start → IsBoundary bs (end + 1)
      → is_between start end c ≡ is_between start end d
  same_between start end low high =
      between_tests start end c
      ∙ ap (λ x. x && not (nat_le (end + 1) c)) (same_test bs c d e start low)
      ∙ ap (λ x. nat_le start d && not x) (same_test bs c d e (end + 1) high)
      ∙ sym (between_tests start end d)

  -- one character
  pub same_char : (k : ℕ) → IsBoundary bs k → IsBoundary bs (k + 1) → (c == k) ≡ (d == k)
  same_char k low high =
      by_tests k c ∙ ap (λ x. x && not (nat_le (k + 1) c)) (same_test bs c d e k low)
      ∙ ap (λ x. nat_le k d && not x) (same_test bs c d e (k + 1) high) ∙ sym (by_tests k d)
    where
      by_tests : (k c : ℕ) → (c == k) ≡ (nat_le k c && not (nat_le (k + 1) c))
      by_tests k c = grind (arith, nat_tests)

  module _ (bounds : All (IsBoundary bs) character_bounds) where
    same_kind : is_character c ≡ is_character d
    same_kind =
        character_tests c
        ∙ ap (λ x. not x || (nat_le 0xE000 c && not (nat_le 0x110000 c)))
        (same_test bs c d e 0xD800 (bounds 0 0 (omega arith)))
        ∙ ap (λ x. not (nat_le 0xD800 d) || (x && not (nat_le 0x110000 c)))
        (same_test bs c d e 0xE000 (bounds 1 0 (omega arith)))
        ∙ ap (λ x. not (nat_le 0xD800 d) || (nat_le 0xE000 d && not x))
        (same_test bs c d e 0x110000 (bounds 2 0 (omega arith)))
        ∙ sym (character_tests d)
      where
        character_tests : (c : ℕ)
            → is_character c
            ≡ (not (nat_le 0xD800 c) || (nat_le 0xE000 c && not (nat_le 0x110000 c)))
        character_tests c = grind (arith, nat_tests)

    pub same_set : (ranges : List ClassRange) → AreBounded bs ranges
        → in_ranges ranges c ≡ in_ranges ranges d
    same_set [] tt = refl
    same_set (r ∷ rs) (low, high, rest) =
        ap (λ x. (x && is_between r.start r.end c) || in_ranges rs c) same_kind
        ∙ ap (λ x. (is_character d && x) || in_ranges rs c) (same_between r.start r.end low high)
        ∙ ap (λ x. span r.start r.end d || x) (same_set rs rest)
