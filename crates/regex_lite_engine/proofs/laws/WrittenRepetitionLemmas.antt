-- A repetition stands in the graph that has its row, if its body does wherever it is written out.
use Rattle.regex_lite_engine.proofs.Common.{◌≡◌, ℕ, zero, suc, ◌+◌, ◌-◌, Bool, true, false, [], ◌∷◌}
use Rattle.regex_lite_engine.proofs.Common.{Some, None, Option, refl, subst, arith, Address, part}
use Rattle.regex_lite_engine.proofs.Common.{own, Content, next_copy, in_copies, no_place, choice_at}
use Rattle.regex_lite_engine.proofs.Common.{in_choices, between_row, bounded_row, repetition_row}
use Rattle.regex_lite_engine.specs.Graph.Places.{Place}
use Rattle.regex_lite_engine.specs.Graph.Addresses.{repetition_entry}
use Rattle.regex_lite_engine.specs.Graph.Repetitions.{next_choice}
use Rattle.regex_lite_engine.proofs.laws.IsHereLemmas.{InRow, InChoices, IsBetween}
use Rattle.regex_lite_engine.proofs.laws.IsHereLemmas.{IsBounded, IsRepetition}
use Rattle.regex_lite_engine.proofs.laws.WrittenPartLemmas.{HasRow, HasParts, has_part}
use Rattle.regex_lite_engine.proofs.laws.WrittenPartLemmas.{has_parts, first_part, later_parts}

module _ (place : Address → Place Address) (pre : Address) (greedy : Bool)
    (enter : Address → Address) (inside : Address → (exit : Address) → Address → Content)
    (Body : (enter exit : Address) → Type 0)
    (stands : (at exit : Address) → HasRow place at (inside at exit) → Body (enter at) exit) where
  abbrev copies : (left k : ℕ) → (exit : Address) → (rest : ℕ → Address → Content)
      → ℕ → Address → Content
  copies = in_copies pre greedy enter inside

  abbrev after_copy : (left k : ℕ) → (exit : Address) → Address
  after_copy = next_copy pre greedy enter inside

  abbrev after_choice : (left j : ℕ) → Address
  after_choice = next_choice pre greedy enter inside

  row_stands : (left k : ℕ) (exit : Address) (rest : ℕ → Address → Content)
      → HasParts place pre k (copies left k exit rest)
      → InRow Body left (after_copy left k exit) exit
  row_stands zero k exit rest has = refl
  row_stands (suc left) k exit rest has =
      let next = after_copy left (suc k) exit in
      let later = row_stands left (suc k) exit rest (later_parts has) in
      (next, stands (part pre k) next (first_part has), later)

  -- the last copy apart
  row_and_last_stand : (left k last : ℕ) (exit : Address) (rest : ℕ → Address → Content)
      → last ≡ k + left → HasParts place pre k (copies (suc left) k exit rest)
      → InRow Body left (enter (part pre k)) (enter (part pre last))
      × Body (enter (part pre last)) exit
  row_and_last_stand zero k last exit rest e has =
      let same : k ≡ last = omega (arith, e) in
      subst (λ z. (enter (part pre k) ≡ enter (part pre z)) × Body (enter (part pre z)) exit) same
      (refl, stands (part pre k) exit (first_part has))
  row_and_last_stand (suc left) k last exit rest e has =
      let next = enter (part pre (suc k)) in
      let last_is : last ≡ suc k + left = omega (arith, e) in
      let later = row_and_last_stand left (suc k) last exit rest last_is (later_parts has) in
      ((next, stands (part pre k) next (first_part has), later.0), later.1)

  -- what comes after the copies
  has_rest : (left k last : ℕ) (exit : Address) (rest : ℕ → Address → Content)
      → last ≡ k + left → HasParts place pre k (copies left k exit rest)
      → HasParts place pre last rest
  has_rest zero k last exit rest e has = record { of = λ c n f. has.of c n (omega (arith, e, f)) }
  has_rest (suc left) k last exit rest e has =
      has_rest left (suc k) last exit rest (omega (arith, e)) (later_parts has)

  -- the choices from choice j on
  abbrev HasChoices : (left k j : ℕ) → Type 0
  HasChoices left k j =
      (c n : ℕ) (p : Place Address) → n ≡ j + c
      → choice_at pre greedy enter inside left k c ≡ Some p → place (own pre (suc (suc n))) ≡ p

  choices_stand : (left k j : ℕ) → HasChoices left k j
      → HasParts place pre k (in_choices pre greedy enter inside left k j)
      → InChoices place greedy Body left (own pre 1) (after_choice left j)
  choices_stand zero k j has bodies = refl
  choices_stand (suc left) k j has bodies =
      let next = after_choice left (suc j) in (
        enter (part pre k),
        next,
        has 0 j _ (omega arith) refl,
        stands (part pre k) next (first_part bodies),
        choices_stand left (suc k) (suc j) (λ c n p e f. has (suc c) n p (omega (arith, e)) f)
            (later_parts bodies),
      )

  has_choices : (left k : ℕ)
      → ((c : ℕ) (p : Place Address) → choice_at pre greedy enter inside left k c ≡ Some p
      → place (own pre (suc (suc c))) ≡ p)
      → HasChoices left k 0
  has_choices left k has c n p e f =
      let same : c ≡ n = omega (arith, e) in
      subst (λ z. place (own pre (suc (suc z))) ≡ p) same (has c p f)

  between_stands : (least d : ℕ) (exit : Address)
      → HasRow place pre (between_row pre greedy enter inside least d exit)
      → IsBetween place greedy Body least (suc d) (after_copy least 0 (own pre 2)) exit
  between_stands zero d exit has =
      let turns = has_choices (suc d) 0 (λ c p e. has.at (0 ∷ suc (suc c) ∷ []) e) in (
        own pre 2,
        own pre 1,
        refl,
        choices_stand (suc d) 0 0 turns (has_parts has),
        has.at (0 ∷ 1 ∷ []) refl,
      )
  between_stands (suc m) d exit has =
      let choices = in_choices pre greedy enter inside (suc d) (suc m) 0 in
      let all : HasParts place pre 0 (copies (suc m) 0 (own pre 2) choices) = has_parts has in
      let turns = has_choices (suc d) (suc m) (λ c p e. has.at (0 ∷ suc (suc c) ∷ []) e) in
      let bodies = has_rest (suc m) 0 (suc m) (own pre 2) choices (omega arith) all in (
        own pre 2,
        own pre 1,
        row_stands (suc m) 0 (own pre 2) choices all,
        choices_stand (suc d) (suc m) 0 turns bodies,
        has.at (0 ∷ 1 ∷ []) refl,
      )

  bounded_stands : (least above : ℕ) (exit : Address)
      → HasRow place pre (bounded_row pre greedy enter inside least above exit)
      → IsBounded place greedy Body least above (repetition_entry pre enter least) exit
  bounded_stands zero zero exit has = has.at (0 ∷ 0 ∷ []) refl
  bounded_stands (suc m) zero exit has =
      row_stands (suc m) 0 exit (no_place pre greedy enter inside) (has_parts has)
  bounded_stands zero (suc zero) exit has = (
    own pre 0,
    own pre 1,
    refl,
    (
      enter (part pre 0),
      own pre 1,
      has.at (0 ∷ 0 ∷ []) refl,
      stands (part pre 0) (own pre 1) (has_part 0 has),
      refl,
    ),
    has.at (0 ∷ 1 ∷ []) refl,
  )
  bounded_stands zero (suc (suc d)) exit has =
      (own pre 2, has.at (0 ∷ 0 ∷ []) refl, between_stands zero (suc d) exit has)
  bounded_stands (suc m) (suc d) exit has = between_stands (suc m) d exit has

  pub repetition_stands : (least : ℕ) (most : Option ℕ) (nullable_body : Bool) (exit : Address)
      → HasRow place pre (repetition_row pre greedy enter inside least most nullable_body exit)
      → IsRepetition place greedy Body least most nullable_body
      (repetition_entry pre enter least) exit
  repetition_stands zero None true exit has = (
    enter (part pre 0),
    own pre 1,
    own pre 2,
    has.at (0 ∷ 0 ∷ []) refl,
    stands (part pre 0) (own pre 1) (has_part 0 has),
    has.at (0 ∷ 1 ∷ []) refl,
    has.at (0 ∷ 2 ∷ []) refl,
  )
  repetition_stands zero None false exit has =
      let body = stands (part pre 0) (own pre 0) (has_part 0 has) in
      (enter (part pre 0), has.at (0 ∷ 0 ∷ []) refl, body)
  repetition_stands (suc n) None nullable_body exit has =
      let none = no_place pre greedy enter inside in
      let row = row_and_last_stand n 0 n (own pre 0) none (omega arith) (has_parts has) in
      (enter (part pre n), own pre 0, row.0, row.1, has.at (0 ∷ 0 ∷ []) refl)
  repetition_stands zero (Some most) nullable_body exit has =
      bounded_stands zero (most - zero) exit has
  repetition_stands (suc m) (Some most) nullable_body exit has =
      bounded_stands (suc m) (most - suc m) exit has
