-- How many groups take part, counted in rows of groups.
use Rattle.regex_lite_engine.proofs.Common.{◌≡◌, ℕ, zero, suc, ◌+◌, ◌-◌, ◌*◌, ◌≤◌, Bool, true}
use Rattle.regex_lite_engine.proofs.Common.{false, is_some, if◌then◌else◌, ◌==◌, Some, None, Option}
use Rattle.regex_lite_engine.proofs.Common.{refl, ap, ◌∙◌, arith, nat_tests, option_or, Marks, over}
use Rattle.std.specs.Option.{option_zip}
use Rattle.regex_lite_engine.specs.Search.Marks.{span, taking_part}
use Rattle.regex_lite_engine.proofs.laws.groups.MarkingLemmas.{around}

abbrev pub one_if : Bool → ℕ
one_if test = if test then 1 else 0

-- what the earlier marks have, those over them have too
more_over : (a b c d : Option ℕ)
    → one_if (is_some (option_zip a b))
    ≤ one_if (is_some (option_zip (option_or c a) (option_or d b)))
more_over None b c d = omega arith
more_over (Some a) None c d = omega arith
more_over (Some a) (Some b) None None = omega arith
more_over (Some a) (Some b) None (Some d) = omega arith
more_over (Some a) (Some b) (Some c) None = omega arith
more_over (Some a) (Some b) (Some c) (Some d) = omega arith

-- and what the later marks have
over_more : (a b c d : Option ℕ)
    → one_if (is_some (option_zip c d))
    ≤ one_if (is_some (option_zip (option_or c a) (option_or d b)))
over_more a b None d = omega arith
over_more a b (Some c) None = omega arith
over_more a b (Some c) (Some d) = omega arith

pub earlier_stay : (later earlier : Marks) (k count : ℕ)
    → taking_part earlier k count ≤ taking_part (over later earlier) k count
earlier_stay later earlier k zero = omega arith
earlier_stay later earlier k (suc count) =
    let rest = earlier_stay later earlier (suc k) count in
    let here = more_over (earlier (2 * k)) (earlier (2 * k + 1)) (later (2 * k))
    (later (2 * k + 1)) in
    omega (arith, rest, here)

pub later_stay : (later earlier : Marks) (k count : ℕ)
    → taking_part later k count ≤ taking_part (over later earlier) k count
later_stay later earlier k zero = omega arith
later_stay later earlier k (suc count) =
    let rest = later_stay later earlier (suc k) count in
    let here = over_more (earlier (2 * k)) (earlier (2 * k + 1)) (later (2 * k))
    (later (2 * k + 1)) in
    omega (arith, rest, here)

-- the first groups, and the others
pub two_rows : (marks : Marks) (k a b : ℕ)
    → taking_part marks k (a + b) ≡ taking_part marks k a + taking_part marks (k + a) b
two_rows marks k zero b =
    let none : 0 + b ≡ b = omega arith in
    let here : k ≡ k + 0 = omega arith in
    let all = ap (λ n. taking_part marks k n) none
    ∙ ap (λ n. taking_part marks n b) here in
    all ∙ omega arith
two_rows marks k (suc a) b =
    let next : suc a + b ≡ suc (a + b) = omega arith in
    let rest = two_rows marks (suc k) a b in
    let same : suc k + a ≡ k + suc a = omega arith in
    let moved = ap (λ n. taking_part marks n b) same in
    ap (λ n. taking_part marks k n) next ∙ omega (arith, rest, moved)

-- more groups than those from k on
pub of_more : (marks : Marks) (k l count left : ℕ) → k ≤ l → l + left ≡ k + count
    → taking_part marks l left ≤ taking_part marks k count
of_more marks k l count left low e =
    let d = l - k in
    let all : count ≡ d + left = omega (arith, low, e) in
    let parts = ap (λ n. taking_part marks k n) all ∙ two_rows marks k d left in
    let same : k + d ≡ l = omega (arith, low) in
    let moved = ap (λ n. taking_part marks n left) same in
    omega (arith, parts, moved)

-- a group that is marked takes part
pub own_part : (g i j : ℕ) (inner : Marks) → is_some (span (around g i j inner) g) ≡ true
own_part g i j inner =
    let a : (2 * g + 1 == 2 * g) ≡ false = grind (arith, nat_tests) in
    let b : (2 * g == 2 * g) ≡ true = grind (arith, nat_tests) in
    let c : (2 * g + 1 == 2 * g + 1) ≡ true = grind (arith, nat_tests) in
    rw (a, b, c) (by_slot (inner (2 * g)))
  where
    by_slot : (a : Option ℕ) → is_some (option_zip (option_or a (Some i)) (Some j)) ≡ true
    by_slot None = refl
    by_slot (Some a) = refl
