-- Which numbers a number can become with more digits.
use Rattle.regex_lite_syntax.proofs.Common.{ℕ, ◌+◌, ◌*◌, ◌/◌, ◌%◌, ◌^◌, ◌<◌, ◌≤◌, max, Bool, ◌⊎◌}
use Rattle.regex_lite_syntax.proofs.Common.{[], subst, inl, inr, arith, Gap, GrowsTo, as_it_is}
use Rattle.regex_lite_syntax.proofs.Common.{Becomes, Text}
use Rattle.std.proofs.lemmas.Nat.{div-add-mod'}
use Rattle.regex_lite_syntax.specs.Parser.Numbers.{with_digit, CanReach}

-- more digits make no number smaller
pub grows_from : {number n : ℕ} → GrowsTo number n → number ≤ n
grows_from (as_it_is e) = omega (arith, e)
grows_from (with_digit d small more) = let further = grows_from more in omega (arith, further)

-- one more digit at the end
pub one_more : {number n : ℕ} (d : ℕ) → d < 10 → GrowsTo number n → GrowsTo number (n * 10 + d)
one_more d small (as_it_is e) = with_digit d small (as_it_is (omega (arith, e)))
one_more d small (with_digit c digit more) = with_digit c digit (one_more d small more)

-- a number is below the least, or is one of those between these two, perhaps with more digits
abbrev pub TooSmallOrFrom : (least low high n : ℕ) → Type 0
TooSmallOrFrom least low high n =
    (n < least) ⊎ ((m : ℕ) × (low ≤ m) × (m ≤ high) × GrowsTo m n)

-- where a number grows to each between two, it grows with one digit more to ten times as many
pub between_more : {number low high : ℕ} → ((n : ℕ) → low ≤ n → n ≤ high → GrowsTo number n)
    → (n : ℕ) → low * 10 ≤ n → n ≤ high * 10 + 9 → GrowsTo number n
between_more {number} all n from to =
    let whole = div-add-mod' n 10 in
    let small : n % 10 < 10 = omega arith in
    let before = all (n / 10) (omega (arith, whole, small, from))
    (omega (arith, whole, small, to)) in
    subst (λ m. GrowsTo number m) whole (one_more (n % 10) small before)

-- and where those two are below the least, so is each number of as many digits
pub others_more : {least low high n : ℕ} → high < least → TooSmallOrFrom least low high n
    → TooSmallOrFrom least (low * 10) (high * 10 + 9) n
others_more below (inl small) = inl small
others_more below (inr (m, from, to, as_it_is e)) = inl (omega (arith, below, to, e))
others_more below (inr (m, from, to, with_digit d small more)) =
    inr (m * 10 + d, omega (arith, from), omega (arith, to, small), more)

-- where each number between them is one of these, and they reach the least, one is not below it
pub reaches_between : {number least low high : ℕ} → low ≤ high → least ≤ high → least < 2 ^ 32
    → low < 2 ^ 32 → ((n : ℕ) → low ≤ n → n ≤ high → GrowsTo number n)
    → CanReach least (GrowsTo number)
reaches_between {number} {least} {low} {high} ordered reaches small in_range all = (
  max least low,
  all (max least low) (omega arith) (omega (arith, ordered, reaches)),
  omega arith,
  omega (arith, small, in_range),
)

-- where one that is not below it is reached, the least of them is not too large
pub reaches_small : {number least low high : ℕ}
    → ((n : ℕ) → GrowsTo number n → TooSmallOrFrom least low high n)
    → CanReach least (GrowsTo number) → low < 2 ^ 32
reaches_small {number} {least} {low} {high} others (n, grows, not_below, in_range) =
    by_case (others n grows)
  where
    by_case : TooSmallOrFrom least low high n → low < 2 ^ 32
    by_case (inl below) = absurd (omega (arith, below, not_below))
    by_case (inr (m, from, to, more)) =
        let grown = grows_from more in omega (arith, grown, from, in_range)

-- what a number becomes it grows to
pub grows_where : (verbose : Bool) (t : Text) (number least : ℕ)
    → CanReach least (Becomes verbose t number) → CanReach least (GrowsTo number)
grows_where verbose t number least (n, inl same, reaches, in_range) =
    (n, as_it_is same, reaches, in_range)
grows_where verbose t number least (n, inr (gap, grows), reaches, in_range) =
    (n, grows, reaches, in_range)

-- and stays as it is where no more digits can follow
pub stays_where : (verbose : Bool) (t : Text) (number least : ℕ) → (Gap verbose t [] → ⊥)
    → CanReach least (Becomes verbose t number) → least ≤ number
stays_where verbose t number least goes_on (n, inl same, reaches, in_range) =
    omega (arith, same, reaches)
stays_where verbose t number least goes_on (n, inr (gap, grows), reaches, in_range) =
    absurd (goes_on gap)
