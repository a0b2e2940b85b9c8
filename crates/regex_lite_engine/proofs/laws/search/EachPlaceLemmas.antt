-- A property that places of each kind have is one of all the places of a tree.
use Rattle.regex_lite_engine.proofs.Common.{ℕ, zero, suc, ◌+◌, ◌-◌, ◌*◌, Bool, true, false, List}
use Rattle.regex_lite_engine.proofs.Common.{[], ◌∷◌, map, Some, None, Option, in_ranges, Set, just}
use Rattle.regex_lite_engine.proofs.Common.{Tree, empty, character, class, look, repetition}
use Rattle.regex_lite_engine.proofs.Common.{capture, concat, alternation, Trees, none, more}
use Rattle.regex_lite_engine.proofs.Common.{nullable, ClassRange, Address, part, own, entry}
use Rattle.regex_lite_engine.proofs.Common.{branch_entries, with_arrows, go, go_marking, go_holding}
use Rattle.regex_lite_engine.proofs.Common.{go_reading, choice, one_of, Content, in_copies}
use Rattle.regex_lite_engine.proofs.Common.{no_place, exactly_row, choice_at, in_choices}
use Rattle.regex_lite_engine.proofs.Common.{between_row, bounded_row, repetition_row, place_at}
use Rattle.regex_lite_engine.proofs.Common.{place_in_chain, place_in_branch}
use Rattle.regex_lite_syntax.specs.declared.hir.look.Look.{Look}
use Rattle.regex_lite_engine.specs.Graph.Places.{Place}
use Rattle.regex_lite_engine.specs.Graph.Repetitions.{optional_row, star_row, nullable_star_row}
use Rattle.regex_lite_engine.specs.Graph.Repetitions.{at_least_row}
use Rattle.regex_lite_engine.specs.Graph.WrittenOut.{capture_row}
use Rattle.regex_lite_engine.specs.SearchLaws.{HasNoLook, HaveNoLook}

-- the property of the place, if there is one
abbrev pub OfPlace : (Place Address → Type 0) → Content → Type 0
OfPlace P None = Unit {0}
OfPlace P (Some place) = P place

-- the kinds of places, by their arrows. A place that asks for a look needs the property only where
-- it isn't known that the tree is without looks
module _ (P : Place Address → Type 0)
    (frees : (targets : List Address) → P (with_arrows (map go targets)))
    (marks : (slot : ℕ) (to : Address) → P (with_arrows (go_marking slot to ∷ [])))
    (reads : (set : Set) (to : Address) → P (with_arrows (go_reading set to ∷ [])))
    (Without : Type 0)
    (looks : (test : Look) (to : Address) → (Without → ⊥)
    → P (with_arrows (go_holding test to ∷ []))) where
  abbrev Fits : Content → Type 0
  Fits = OfPlace P

  turn_fits : (greedy : Bool) (body other : Address) → P (choice greedy body other)
  turn_fits true body other = frees (body ∷ other ∷ [])
  turn_fits false body other = frees (other ∷ body ∷ [])

  class_fits : (ranges : List ClassRange) (exit : Address) → P (one_of ranges exit)
  class_fits [] exit = frees []
  class_fits (range ∷ ranges) exit = reads (in_ranges (range ∷ ranges)) exit

  module _ (pre : Address) (greedy : Bool) (enter : Address → Address)
      (inside : Address → (exit : Address) → Address → Content)
      (all : (at exit a : Address) → Fits (inside at exit a)) where
    copies_fit : (n k : ℕ) (after : Address) (rest : ℕ → Address → Content)
        → ((c : ℕ) (a : Address) → Fits (rest c a)) → (c : ℕ) (a : Address)
        → Fits (in_copies pre greedy enter inside n k after rest c a)
    copies_fit zero k after rest others c a = others c a
    copies_fit (suc n) k after rest others zero a = all (part pre k) _ a
    copies_fit (suc n) k after rest others (suc c) a =
        copies_fit n (suc k) after rest others c a

    choice_fit : (n k j : ℕ) → Fits (choice_at pre greedy enter inside n k j)
    choice_fit zero k j = tt
    choice_fit (suc n) k zero = turn_fits greedy (enter (part pre k)) (own pre 1)
    choice_fit (suc n) k (suc j) = choice_fit n (suc k) j

    choices_fit : (n k j c : ℕ) (a : Address)
        → Fits (in_choices pre greedy enter inside n k j c a)
    choices_fit zero k j c a = tt
    choices_fit (suc n) k j zero a = all (part pre k) _ a
    choices_fit (suc n) k j (suc c) a = choices_fit n (suc k) (suc j) c a

    optional_fit : (exit a : Address) → Fits (optional_row pre greedy enter inside exit a)
    optional_fit exit (zero ∷ zero ∷ []) = turn_fits greedy (enter (part pre 0)) (own pre 1)
    optional_fit exit (zero ∷ suc zero ∷ []) = frees (exit ∷ [])
    optional_fit exit (suc zero ∷ a) = all (part pre 0) (own pre 1) a
    optional_fit exit a = tt

    star_fit : (exit a : Address) → Fits (star_row pre greedy enter inside exit a)
    star_fit exit (zero ∷ zero ∷ []) = turn_fits greedy (enter (part pre 0)) exit
    star_fit exit (suc zero ∷ a) = all (part pre 0) (own pre 0) a
    star_fit exit a = tt

    nullable_star_fit : (exit a : Address)
        → Fits (nullable_star_row pre greedy enter inside exit a)
    nullable_star_fit exit (zero ∷ zero ∷ []) = turn_fits greedy (enter (part pre 0)) (own pre 2)
    nullable_star_fit exit (zero ∷ suc zero ∷ []) =
        turn_fits greedy (enter (part pre 0)) (own pre 2)
    nullable_star_fit exit (zero ∷ suc (suc zero) ∷ []) = frees (exit ∷ [])
    nullable_star_fit exit (suc zero ∷ a) = all (part pre 0) (own pre 1) a
    nullable_star_fit exit a = tt

    at_least_fit : (n : ℕ) (exit a : Address)
        → Fits (at_least_row pre greedy enter inside n exit a)
    at_least_fit n exit (zero ∷ zero ∷ []) = turn_fits greedy (enter (part pre n)) exit
    at_least_fit n exit (suc c ∷ a) =
        copies_fit (suc n) 0 (own pre 0) (no_place pre greedy enter inside) (λ d b. tt) c a
    at_least_fit n exit a = tt

    exactly_fit : (n : ℕ) (exit a : Address)
        → Fits (exactly_row pre greedy enter inside n exit a)
    exactly_fit zero exit (zero ∷ zero ∷ []) = frees (exit ∷ [])
    exactly_fit n exit (suc c ∷ a) =
        copies_fit n 0 exit (no_place pre greedy enter inside) (λ d b. tt) c a
    exactly_fit n exit a = tt

    between_fit : (m d : ℕ) (exit a : Address)
        → Fits (between_row pre greedy enter inside m d exit a)
    between_fit zero d exit (zero ∷ zero ∷ []) = frees (own pre 2 ∷ [])
    between_fit m d exit (zero ∷ suc zero ∷ []) = frees (exit ∷ [])
    between_fit m d exit (zero ∷ suc (suc j) ∷ []) = choice_fit (suc d) m j
    between_fit m d exit (suc c ∷ a) =
        copies_fit m 0 (own pre 2) (in_choices pre greedy enter inside (suc d) m 0)
        (λ e b. choices_fit (suc d) m 0 e b) c a
    between_fit m d exit a = tt

    bounded_fit : (least above : ℕ) (exit a : Address)
        → Fits (bounded_row pre greedy enter inside least above exit a)
    bounded_fit least zero exit a = exactly_fit least exit a
    bounded_fit zero (suc zero) exit a = optional_fit exit a
    bounded_fit zero (suc (suc d)) exit a = between_fit zero (suc d) exit a
    bounded_fit (suc m) (suc d) exit a = between_fit (suc m) d exit a

    repetition_fit : (least : ℕ) (most : Option ℕ) (nullable_body : Bool) (exit a : Address)
        → Fits (repetition_row pre greedy enter inside least most nullable_body exit a)
    repetition_fit zero None true exit a = nullable_star_fit exit a
    repetition_fit zero None false exit a = star_fit exit a
    repetition_fit (suc n) None nullable_body exit a = at_least_fit n exit a
    repetition_fit zero (Some most) nullable_body exit a = bounded_fit zero (most - zero) exit a
    repetition_fit (suc m) (Some most) nullable_body exit a =
        bounded_fit (suc m) (most - suc m) exit a

  capture_fit : (pre : Address) (index : ℕ) (enter : Address → Address)
      (inside : Address → (exit : Address) → Address → Content)
      → ((at exit a : Address) → Fits (inside at exit a)) → (exit a : Address)
      → Fits (capture_row pre index enter inside exit a)
  capture_fit pre index enter inside all exit (zero ∷ zero ∷ []) =
      marks (2 * index) (enter (part pre 0))
  capture_fit pre index enter inside all exit (zero ∷ suc zero ∷ []) =
      marks (2 * index + 1) exit
  capture_fit pre index enter inside all exit (suc zero ∷ a) = all (part pre 0) (own pre 1) a
  capture_fit pre index enter inside all exit a = tt

  mutual
    pub places_fit : (tree : Tree) → (Without → HasNoLook tree) → (pre exit a : Address)
        → Fits (place_at tree pre exit a)
    places_fit empty gone pre exit (zero ∷ zero ∷ []) = frees (exit ∷ [])
    places_fit empty gone pre exit a = tt
    places_fit (character c) gone pre exit (zero ∷ zero ∷ []) = reads (just c) exit
    places_fit (character c) gone pre exit a = tt
    places_fit (class ranges) gone pre exit (zero ∷ zero ∷ []) = class_fits ranges exit
    places_fit (class ranges) gone pre exit a = tt
    places_fit (look test) gone pre exit (zero ∷ zero ∷ []) = looks test exit gone
    places_fit (look test) gone pre exit a = tt
    places_fit (repetition least most greedy body) gone pre exit a =
        repetition_fit pre greedy (entry body) (place_at body)
        (λ b c d. places_fit body gone b c d) least most (nullable body) exit a
    places_fit (capture index name body) gone pre exit a =
        capture_fit pre index (entry body) (place_at body) (λ b c d. places_fit body gone b c d)
        exit a
    places_fit (concat parts) gone pre exit (suc c ∷ a) = chain_fit parts gone pre 0 exit c a
    places_fit (concat parts) gone pre exit a = tt
    places_fit (alternation branches) gone pre exit (zero ∷ zero ∷ []) =
        frees (branch_entries branches pre 0)
    places_fit (alternation branches) gone pre exit (zero ∷ suc zero ∷ []) = frees (exit ∷ [])
    places_fit (alternation branches) gone pre exit (suc c ∷ a) =
        branch_fit branches gone pre 0 (own pre 1) c a
    places_fit (alternation branches) gone pre exit a = tt

    chain_fit : (parts : Trees) → (Without → HaveNoLook parts) → (pre : Address) (k : ℕ)
        (exit : Address) (c : ℕ) (a : Address) → Fits (place_in_chain parts pre k exit c a)
    chain_fit none gone pre k exit c a = tt
    chain_fit (more t rest) gone pre k exit zero a =
        places_fit t (λ w. (gone w).0) (part pre k) _ a
    chain_fit (more t rest) gone pre k exit (suc c) a =
        chain_fit rest (λ w. (gone w).1) pre (suc k) exit c a

    branch_fit : (branches : Trees) → (Without → HaveNoLook branches) → (pre : Address) (k : ℕ)
        (exit : Address) (c : ℕ) (a : Address) → Fits (place_in_branch branches pre k exit c a)
    branch_fit none gone pre k exit c a = tt
    branch_fit (more t rest) gone pre k exit zero a =
        places_fit t (λ w. (gone w).0) (part pre k) exit a
    branch_fit (more t rest) gone pre k exit (suc c) a =
        branch_fit rest (λ w. (gone w).1) pre (suc k) exit c a
