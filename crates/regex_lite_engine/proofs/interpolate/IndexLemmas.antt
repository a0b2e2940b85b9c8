-- The number that digits write.
use Rattle.regex_lite_engine.proofs.Common.{◌≡◌, ℕ, suc, ◌+◌, ◌-◌, ◌*◌, ◌^◌, ◌<◌, ◌≤◌, Bool, true}
use Rattle.regex_lite_engine.proofs.Common.{false, ◌&&◌, List, [], ◌∷◌, length, get_or, take, drop}
use Rattle.regex_lite_engine.proofs.Common.{Some, None, sym, refl, ap, ◌∙◌, subst, arith, nat_tests}
use Rattle.regex_lite_engine.proofs.Common.{take-append-drop, is_digit, number_of}
use Rattle.std.proofs.Common.{not, eqb, ltb, fold, cond}
use Rattle.std.specs.List.{list_all}
use Rattle.std.proofs.lemmas.List.Sums.{fold-append, fold_more}
use Rattle.regex_lite_syntax.specs.Characters.{is_lower, digit_value}
use Rattle.regex_lite_engine.specs.Interpolation.{is_index}

abbrev with_digit : ℕ → ℕ → ℕ
with_digit n d = n * 10 + digit_value d

fold_grows : (xs : List ℕ) (n : ℕ) → n ≤ fold with_digit n xs
fold_grows [] n = omega arith
fold_grows (x ∷ xs) n = omega (arith, fold_grows xs (with_digit n x))

-- the first digits write no larger number than all of them
pub number_of_first : (xs : List ℕ) (k : ℕ) → number_of 10 (take k xs) ≤ number_of 10 xs
number_of_first xs k =
    subst (λ n. number_of 10 (take k xs) ≤ n)
    (sym (fold-append with_digit 0 (take k xs) (drop k xs))
    ∙ ap (number_of 10) (take-append-drop k xs))
    (fold_grows (drop k xs) (number_of 10 (take k xs)))

pub number_of_one_more : (xs : List ℕ) (i : ℕ) → i < length xs
    → number_of 10 (take (i + 1) xs) ≡ number_of 10 (take i xs) * 10 + digit_value (get_or xs i 0)
number_of_one_more xs i inside = fold_more with_digit 0 xs i 0 inside

pub value_of_digit : (c : ℕ) → is_digit c ≡ true → digit_value c ≡ c - 48
value_of_digit c digit = ap (λ b. cond b (c - 48) (cond (is_lower c) (c - 87) (c - 55))) digit

at_least : (n : ℕ) → 2 ^ 64 ≤ n → ltb n (2 ^ 64) ≡ false
at_least n large = grind (arith, nat_tests)

false_after : (a : Bool) → (a && false) ≡ false
false_after true = refl
false_after false = refl

-- too large a number is no index
pub too_large : (xs : List ℕ) → 2 ^ 64 ≤ number_of 10 xs
    → None ≡ cond (is_index xs) (Some (number_of 10 xs)) None
too_large xs large =
    let none : is_index xs ≡ false =
    ap (λ b. (not (eqb (length xs) 0) && list_all is_digit xs) && b)
    (at_least (number_of 10 xs) large)
    ∙ false_after (not (eqb (length xs) 0) && list_all is_digit xs) in
    ap (λ b. cond b (Some (number_of 10 xs)) None) (sym none)

all_pass : (p : ℕ → Bool) (xs : List ℕ)
    → ((k : ℕ) → k < length xs → p (get_or xs k 0) ≡ true) → list_all p xs ≡ true
all_pass p [] each = refl
all_pass p (x ∷ xs) each =
    rw (each 0 (omega arith), all_pass p xs (λ k l. each (suc k) (omega (arith, l)))) refl

below : (n : ℕ) → n < 2 ^ 64 → ltb n (2 ^ 64) ≡ true
below n small = grind (arith, nat_tests)

some : (n : ℕ) → 0 < n → not (eqb n 0) ≡ true
some n positive = grind (arith, nat_tests)

-- digits alone are an index
pub digits_are_index : (xs : List ℕ) (n : ℕ) → 0 < length xs
    → ((k : ℕ) → k < length xs → is_digit (get_or xs k 0) ≡ true) → n ≡ number_of 10 xs → n < 2 ^ 64
    → Some n ≡ cond (is_index xs) (Some (number_of 10 xs)) None
digits_are_index xs n positive digits number small =
    let a = some (length xs) positive in
    let b = all_pass is_digit xs digits in
    let c = below (number_of 10 xs) (subst (λ m. m < 2 ^ 64) number small) in
    let index : is_index xs ≡ true =
    ap (λ x. (x && list_all is_digit xs) && ltb (number_of 10 xs) (2 ^ 64)) a
    ∙ ap (λ x. (true && x) && ltb (number_of 10 xs) (2 ^ 64)) b ∙ c in
    ap Some number ∙ ap (λ x. cond x (Some (number_of 10 xs)) None) (sym index)
