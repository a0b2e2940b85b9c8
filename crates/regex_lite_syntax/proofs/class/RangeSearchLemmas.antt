-- The one run that may hold a character, among runs in order.
use Rattle.regex_lite_syntax.proofs.Common.{◌≡◌, ℕ, zero, suc, ◌+◌, ◌<◌, ◌≤◌, true, false, List, []}
use Rattle.regex_lite_syntax.proofs.Common.{◌∷◌, length, get_or, IsTrue, refl, arith, nat_tests}
use Rattle.regex_lite_syntax.proofs.Common.{is_character, in_ranges, next_character, AreRuns}
use Rattle.regex_lite_syntax.proofs.Common.{ClassRange}
use Rattle.std.proofs.Common.{ltb, leb}
use Rattle.std.specs.List.Sorted.{IsNonDecreasingBy, IsPartitionPoint}
use Rattle.regex_lite_syntax.proofs.RangeLemmas.{next_above, runs_from}

-- runs end no sooner than they may start
ends_from : (n : ℕ) (ranges : List ClassRange) (i : ℕ) (d : ClassRange) → AreRuns n ranges
    → i < length ranges → n ≤ (get_or ranges i d).end
ends_from n [] i d runs inside = absurd (omega (arith, inside))
ends_from n (r ∷ ranges) zero d runs inside = omega (arith, runs.0, runs.3)
ends_from n (r ∷ ranges) (suc i) d runs inside =
    let later = ends_from (next_character r.end + 1) ranges i d runs.4 (omega (arith, inside)) in
    omega (arith, later, runs.0, runs.3, next_above r.end)

-- and in order
pub ends_rise : (n : ℕ) (ranges : List ClassRange) → AreRuns n ranges
    → IsNonDecreasingBy (λ r. r.end) ranges
ends_rise n [] runs i j d le inside = absurd (omega (arith, inside))
ends_rise n (r ∷ ranges) runs zero zero d le inside = omega arith
ends_rise n (r ∷ ranges) runs zero (suc j) d le inside =
    let later = ends_from (next_character r.end + 1) ranges j d runs.4 (omega (arith, inside)) in
    omega (arith, later, next_above r.end)
ends_rise n (r ∷ ranges) runs (suc i) zero d le inside = absurd (omega (arith, le))
ends_rise n (r ∷ ranges) runs (suc i) (suc j) d le inside =
    ends_rise (next_character r.end + 1) ranges runs.4 i j d (omega (arith, le))
    (omega (arith, inside))

-- where runs end before the character up to a place, and from there on do not
abbrev pub Parts : ℕ → List ClassRange → ℕ → Type 0
Parts c ranges i = IsPartitionPoint (λ r. ltb r.end c ≡ true) (λ r. ltb r.end c ≡ false) ranges i

parts_rest : (c : ℕ) (r : ClassRange) (ranges : List ClassRange) (i : ℕ)
    → Parts c (r ∷ ranges) (suc i) → Parts c ranges i
parts_rest c r ranges i parts = (
  λ k d from below. parts.0 (suc k) d (omega arith) (omega (arith, below)),
  λ k d from below. parts.1 (suc k) d (omega (arith, from)) (omega (arith, below)),
)

-- no run holds it where all end before it
pub held_nowhere : (c : ℕ) (ranges : List ClassRange) (i : ℕ) → Parts c ranges i → length ranges ≤ i
    → in_ranges ranges c ≡ false
held_nowhere c [] i parts over = refl
held_nowhere c (r ∷ ranges) zero parts over = absurd (omega (arith, over))
held_nowhere c (r ∷ ranges) (suc i) parts over =
    let rest = held_nowhere c ranges i (parts_rest c r ranges i parts) (omega (arith, over)) in
    let before = parts.0 0 r (omega arith) (omega arith) in
    grind (arith, nat_tests)

-- else the run at the place alone may hold it
pub held_there : (c n : ℕ) (ranges : List ClassRange) (i : ℕ) (d : ClassRange)
    → IsTrue (is_character c) → AreRuns n ranges → Parts c ranges i
    → i < length ranges → in_ranges ranges c ≡ leb (get_or ranges i d).start c
held_there c n [] i d is runs parts inside = absurd (omega (arith, inside))
held_there c n (r ∷ ranges) zero d is runs parts inside =
    let here = parts.1 0 r (omega arith) (omega arith) in
    let rest = runs_from (next_character r.end + 1) ranges c runs.4 in
    grind (arith, nat_tests, next_above r.end)
held_there c n (r ∷ ranges) (suc i) d is runs parts inside =
    let rest = held_there c (next_character r.end + 1) ranges i d is runs.4
    (parts_rest c r ranges i parts) (omega (arith, inside)) in
    let before = parts.0 0 r (omega arith) (omega arith) in
    grind (arith, nat_tests)
