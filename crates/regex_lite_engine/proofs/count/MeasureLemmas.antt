-- The sum of a measure of places over the layout of a tree, where it depends on no place's number.
use Rattle.regex_lite_engine.proofs.Common.{◌≡◌, ℕ, zero, suc, ◌+◌, ◌-◌, ◌*◌, Bool, true, false}
use Rattle.regex_lite_engine.proofs.Common.{List, [], ◌∷◌, ◌++◌, map, length, replicate, Some, None}
use Rattle.regex_lite_engine.proofs.Common.{sum_by, Option, refl, ap, ◌∙◌, arith, sum_by-cons, Tree}
use Rattle.regex_lite_engine.proofs.Common.{empty, character, class, look, repetition, capture}
use Rattle.regex_lite_engine.proofs.Common.{concat, alternation, Trees, none, more, nullable}
use Rattle.regex_lite_engine.proofs.Common.{ClassRange, copies, own_places, count, complete}
use Rattle.regex_lite_engine.proofs.Common.{with_arrows, renamed_arrow, renamed, go, go_marking}
use Rattle.regex_lite_engine.proofs.Common.{go_holding, choice, one_of, whole, Fragment}
use Rattle.regex_lite_engine.proofs.Common.{copies_layout, choices_layout, star_layout, layout}
use Rattle.regex_lite_engine.proofs.Common.{chain_layout, branches_layout, pattern_table}
use Rattle.regex_lite_engine.specs.Graph.Places.{Place, one_char}
use Rattle.regex_lite_engine.specs.Graph.PlaceCounts.{own_arrows, bounded_places, bounded_arrows}
use Rattle.regex_lite_engine.specs.Nfa.Repetitions.{bounded_layout, repetition_layout}

-- a place that has forgotten the numbers of those to which it leads
abbrev pub forget : ℕ → ℕ
forget q = 0

abbrev pub unnumbered : Place ℕ → Place ℕ
unnumbered = renamed forget

-- What the places of a repetition beside its copies measure, by how many places and arrows these
-- are. Each has one free arrow or two, so as many have two as there are arrows more than places
abbrev pub own_measure : (places arrows one two : ℕ) → ℕ
own_measure places arrows one two =
    arrows * two + 2 * places * one - (places * two + arrows * one)

-- the choice of an alternation has an arrow to each branch
entry_for_each : (branches : Trees) (base exit : ℕ)
    → length (branches_layout branches base exit).1 ≡ count branches
entry_for_each none base exit = refl
entry_for_each (more a rest) base exit =
    let now = base + length (layout a base exit).0 in
    omega (arith, entry_for_each rest now exit)

forgotten : (entries : List ℕ)
    → map (renamed_arrow forget) (map go entries) ≡ replicate (length entries) (go 0)
forgotten [] = refl
forgotten (entry ∷ entries) = ap (λ arrows. go 0 ∷ arrows) (forgotten entries)

module _ (f : Place ℕ → ℕ) where
  -- the sum by recursion on the list, which `sum_by` is not
  abbrev total : List (Place ℕ) → ℕ
  total [] = 0
  total (p ∷ ps) = f p + total ps

  total_is : (ps : List (Place ℕ)) → sum_by f ps ≡ total ps
  total_is [] = refl
  total_is (p ∷ ps) = sum_by-cons f p ps ∙ ap (λ sum. f p + sum) (total_is ps)

  total_both : (ps qs : List (Place ℕ)) → total (ps ++ qs) ≡ total ps + total qs
  total_both [] qs = omega arith
  total_both (p ∷ ps) qs = omega (arith, total_both ps qs)

  -- the measure of a place with this many free arrows
  abbrev free : ℕ → ℕ
  free n = f (with_arrows (replicate n (go 0)))

  abbrev mutual
    pub measured : Tree → ℕ
    measured empty = free 1
    measured (character c) = f (one_char c 0)
    measured (class ranges) = f (one_of ranges 0)
    measured (look test) = f (with_arrows (go_holding test 0 ∷ []))
    measured (repetition least most greedy body) =
        copies least most * measured body
        + own_measure (own_places least most (nullable body))
        (own_arrows least most (nullable body)) (free 1) (free 2)
    measured (capture index name body) =
        measured body + f (with_arrows (go_marking (2 * index) 0 ∷ []))
        + f (with_arrows (go_marking (2 * index + 1) 0 ∷ []))
    measured (concat parts) = measured_in parts
    measured (alternation branches) = measured_in branches + free (count branches) + free 1

    pub measured_in : Trees → ℕ
    measured_in none = 0
    measured_in (more a rest) = measured a + measured_in rest

  module _ (same : (place : Place ℕ) → f place ≡ f (unnumbered place)) where
    at_free : (entries : List ℕ) → f (with_arrows (map go entries)) ≡ free (length entries)
    at_free entries =
        same (with_arrows (map go entries)) ∙ ap (λ x. f (with_arrows x)) (forgotten entries)

    at_choice : (greedy : Bool) (a b : ℕ) → f (choice greedy a b) ≡ free 2
    at_choice true a b = same (with_arrows (go a ∷ go b ∷ []))
    at_choice false a b = same (with_arrows (go b ∷ go a ∷ []))

    at_set : (ranges : List ClassRange) (exit : ℕ) → f (one_of ranges exit) ≡ f (one_of ranges 0)
    at_set [] exit = refl
    at_set (range ∷ ranges) exit = same (one_of (range ∷ ranges) exit)

    module _ (greedy : Bool) (body : ℕ → ℕ → Fragment) (b : ℕ)
        (counted : (base exit : ℕ) → total (body base exit).0 ≡ b) where
      total_copies : (n base exit : ℕ) → total (copies_layout body n base exit).0 ≡ n * b
      total_copies zero base exit = omega arith
      total_copies (suc n) base exit = omega (arith, total_both, total_copies n base exit)

      total_choices : (n base join : ℕ)
          → total (choices_layout greedy body n base join).0 ≡ n * b + n * free 2
      total_choices zero base join = omega arith
      total_choices (suc n) base join =
          omega (arith, total_both, at_choice, total_choices n base join)

      total_star : (base exit : ℕ) → total (star_layout greedy body base exit).0 ≡ b + free 2
      total_star base exit = omega (arith, at_choice)

      total_bounded : (least above base exit : ℕ)
          → total (bounded_layout greedy body least above base exit).0
          ≡ (least + above) * b
          + own_measure (bounded_places least above) (bounded_arrows least above) (free 1) (free 2)
      total_bounded zero zero base exit = omega arith
      total_bounded (suc n) zero base exit = omega (arith, total_copies)
      total_bounded zero (suc zero) base exit = omega (arith, total_both, total_choices)
      total_bounded zero (suc (suc d)) base exit = omega (arith, total_both, total_choices)
      total_bounded (suc n) (suc d) base exit =
          omega (arith, total_both, total_choices, total_copies)

      total_repetition : (least : ℕ) (most : Option ℕ) (nullable_body : Bool) (base exit : ℕ)
          → total (repetition_layout greedy body least most nullable_body base exit).0
          ≡ copies least most * b
          + own_measure (own_places least most nullable_body)
          (own_arrows least most nullable_body) (free 1) (free 2)
      total_repetition zero None true base exit =
          let plus = (star_layout greedy body (base + 1) base).0 in
          let inner = body (base + 1 + 1) (base + 1) in
          let all = total_both plus (choice greedy inner.1 base ∷ []) in
          omega (arith, all, total_star (base + 1) base, at_choice)
      total_repetition zero None false base exit = omega (arith, total_star)
      total_repetition (suc n) None nullable_body base exit =
          let last = star_layout greedy body base exit in
          let now = base + length last.0 in
          let inner = body (base + 1) base in
          let all = total_both last.0 (copies_layout body n now inner.1).0 in
          omega (arith, all, total_star base exit, total_copies n now inner.1)
      total_repetition zero (Some most) nullable_body base exit =
          total_bounded zero (most - zero) base exit
      total_repetition (suc n) (Some most) nullable_body base exit =
          total_bounded (suc n) (most - suc n) base exit

    mutual
      total_layout : (tree : Tree) (base exit : ℕ) → total (layout tree base exit).0 ≡ measured tree
      total_layout empty base exit = omega arith
      total_layout (character c) base exit = omega arith
      total_layout (class ranges) base exit = omega (arith, at_set)
      total_layout (look test) base exit = omega arith
      total_layout (repetition least most greedy body) base exit =
          total_repetition greedy (layout body) (measured body) (total_layout body) least most
          (nullable body) base exit
      total_layout (capture index name body) base exit =
          omega (arith, total_both, total_layout body (base + 1) base)
      total_layout (concat parts) base exit = total_chain parts base exit
      total_layout (alternation branches) base exit =
          let inner = branches_layout branches (base + 1) base in
          let choice = at_free inner.1 ∙ ap free (entry_for_each branches (base + 1) base) in
          omega (arith, total_both, choice, total_branches branches (base + 1) base)

      total_chain : (parts : Trees) (base exit : ℕ)
          → total (chain_layout parts base exit).0 ≡ measured_in parts
      total_chain none base exit = refl
      total_chain (more a rest) base exit =
          let later = chain_layout rest base exit in
          let first = total_layout a (base + length later.0) later.1 in
          omega (arith, total_both, first, total_chain rest base exit)

      total_branches : (branches : Trees) (base exit : ℕ)
          → total (branches_layout branches base exit).0 ≡ measured_in branches
      total_branches none base exit = refl
      total_branches (more a rest) base exit =
          let later = total_branches rest (base + length (layout a base exit).0) exit in
          omega (arith, total_both, total_layout a base exit, later)

    pub sum_pattern : (tree : Tree) (base : ℕ)
        → sum_by f (pattern_table tree base) ≡ f complete + measured (whole tree)
    sum_pattern tree base =
        total_is (pattern_table tree base)
        ∙ ap (λ n. f complete + n) (total_layout (whole tree) (base + 1) base)
