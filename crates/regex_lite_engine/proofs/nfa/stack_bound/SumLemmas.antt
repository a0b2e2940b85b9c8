-- The stack bound of places, summed up from the first on.
use Rattle.regex_lite_engine.proofs.Common.{◌≡◌, ℕ, suc, ◌+◌, ◌-◌, ◌<◌, ◌≤◌, List, [], ◌∷◌, map}
use Rattle.regex_lite_engine.proofs.Common.{length, get_or, drop, Some, None, sum_by, Option, refl}
use Rattle.regex_lite_engine.proofs.Common.{ap, ◌∙◌, arith, drop-cons, length-map, sum_by-cons}
use Rattle.regex_lite_engine.proofs.Common.{complete, with_arrows, go, stack_bound}
use Rattle.regex_lite_engine.proofs.Common.{stack_bound_with, stack_bound_of, place_of}
use Rattle.regex_lite_engine.specs.declared.nfa.place.Place as code
use Rattle.regex_lite_engine.specs.Graph.Places.{Place, kept_marks}

few_marks : (slot : Option ℕ) → kept_marks slot 0 ≡ 0
few_marks None = refl
few_marks (Some slot) = refl

few_at : (place : Place ℕ) → stack_bound_with 0 place ≤ stack_bound place
few_at complete = omega arith
few_at (with_arrows []) = omega arith
few_at (with_arrows (arrow ∷ arrows)) = let none = few_marks arrow.mark in omega (arith, none)

-- it is less without slots
pub few_without_slots : (table : List (Place ℕ))
    → sum_by (stack_bound_with 0) table ≤ stack_bound_of table
few_without_slots [] = omega arith
few_without_slots (place ∷ table) =
    let a = sum_by-cons (stack_bound_with 0) place table in
    let b = sum_by-cons stack_bound place table in
    omega (arith, a, b, few_at place, few_without_slots table)

-- the stack bound of branches: all of these arrows but one
pub kept_at_branches : (entries : List ℕ)
    → length entries - 1 ≡ stack_bound (with_arrows (map (λ q. go q) entries))
kept_at_branches [] = refl
kept_at_branches (entry ∷ entries) =
    let size = length-map entries (λ (q : ℕ). go q) in
    omega (arith, size)

-- the next place, and those after it
pub next_left : (f : Place ℕ → ℕ) (places : List code.Place) (i : ℕ) (d : code.Place)
    → i < length places
    → sum_by f (map place_of (drop i places))
    ≡ f (place_of (get_or places i d)) + sum_by f (map place_of (drop (suc i) places))
next_left f places i d lt =
    ap (λ z. sum_by f (map place_of z)) (drop-cons places i d lt)
    ∙ sum_by-cons f (place_of (get_or places i d)) (map place_of (drop (suc i) places))
