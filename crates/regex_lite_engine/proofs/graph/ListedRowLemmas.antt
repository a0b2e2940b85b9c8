-- Each address at which a repetition has a place is among its addresses, given that of its body.
use Rattle.regex_lite_engine.proofs.Common.{◌≡◌, ℕ, zero, suc, ◌+◌, ◌-◌, Bool, true, false, ◌⊎◌}
use Rattle.regex_lite_engine.proofs.Common.{List, [], ◌∷◌, ◌++◌, Some, None, Option, sym, refl, ◌∙◌}
use Rattle.regex_lite_engine.proofs.Common.{subst, inl, inr, arith, Address, part, own, Content}
use Rattle.regex_lite_engine.proofs.Common.{in_copies, no_place, exactly_row, choice_at, in_choices}
use Rattle.regex_lite_engine.proofs.Common.{between_row, bounded_row, repetition_row}
use Rattle.regex_lite_engine.specs.Graph.Places.{Place}
use Rattle.regex_lite_engine.specs.Graph.Repetitions.{optional_row, star_row}
use Rattle.regex_lite_engine.specs.Graph.Repetitions.{nullable_star_row, at_least_row}
use Rattle.regex_lite_engine.proofs.graph.AddressLemmas.{own_place, in_part, framed}
use Rattle.regex_lite_engine.proofs.graph.AddressLemmas.{copies_addresses, choices_addresses}
use Rattle.regex_lite_engine.proofs.graph.AddressLemmas.{bounded_addresses, repetition_addresses}
use Rattle.regex_lite_engine.proofs.graph.CopyRowLemmas.{copies_before}
use Rattle.regex_lite_engine.proofs.graph.AmongLemmas.{from_0, from_first, from_later, in_framed}
use Rattle.regex_lite_engine.proofs.InLemmas.{In, in_left, in_right, in_last, in_map}

-- the list has each address at which there is a place inside
abbrev pub ListsAll : (inside : Address → (exit : Address) → Address → Content) → List Address
    → Type 0
ListsAll inside list =
    (pre exit a : Address) (place : Place Address) → inside pre exit a ≡ Some place → In a list

module _ (pre : Address) (greedy : Bool) (enter : Address → Address)
    (inside : Address → (exit : Address) → Address → Content) (list : List Address)
    (all : ListsAll inside list) where
  -- the words of the written-out pattern, for this repetition
  abbrev row : (left k : ℕ) → (exit : Address) → (rest : ℕ → Address → Content) → ℕ → Address
      → Content
  row = in_copies pre greedy enter inside

  abbrev nowhere : ℕ → Address → Content
  nowhere = no_place pre greedy enter inside

  abbrev turns : (left k j : ℕ) → ℕ → Address → Content
  turns = in_choices pre greedy enter inside

  -- and its addresses
  abbrev copies : (left k : ℕ) → List Address
  copies = copies_addresses list

  abbrev choices : (left k j : ℕ) → List Address
  choices = choices_addresses list

  listed_part : (k : ℕ) (exit a : Address) (place : Place Address)
      → inside (part pre k) exit a ≡ Some place → In (suc k ∷ a) (in_part k list)
  listed_part k exit a place e = in_map (λ b. suc k ∷ b) a list (all (part pre k) exit a place e)

  -- an address in the copies, or after them
  listed_copies : (n k : ℕ) (after : Address) (rest : ℕ → Address → Content) (c : ℕ) (a : Address)
      (place : Place Address) → row n k after rest c a ≡ Some place
      → In (suc (k + c) ∷ a) (copies n k) ⊎ ((d : ℕ) × (c ≡ n + d) × (rest d a ≡ Some place))
  listed_copies zero k after rest c a place e = inr (c, omega arith, e)
  listed_copies (suc n) k after rest zero a place e =
      let here = in_right (suc k ∷ a) (copies n (suc k)) _ (listed_part k _ a place e) in
      inl (from_first (λ m. suc m ∷ a) (copies (suc n) k) k here)
  listed_copies (suc n) k after rest (suc c) a place e =
      elim (listed_copies n (suc k) after rest c a place e) [
        | inl r ↦
            let later = in_left _ (copies n (suc k)) (in_part k list) r in
            inl (from_later (λ m. suc m ∷ a) (copies (suc n) k) k c later)
        | inr r ↦ inr (r.0, omega (arith, r.1), r.2)
      ]

  listed_choice : (n k j i : ℕ) (place : Place Address)
      → choice_at pre greedy enter inside n k i ≡ Some place
      → In (own_place (suc (suc (j + i)))) (choices n k j)
  listed_choice zero k j i place e = absurd (cc)
  listed_choice (suc n) k j zero place e =
      let turn = own_place (suc (suc j)) in
      let last = in_last turn (in_part k list) in
      let here = in_right turn (choices n (suc k) (suc j)) _ last in
      from_first (λ m. own_place (suc (suc m))) (choices (suc n) k j) j here
  listed_choice (suc n) k j (suc i) place e =
      let here = in_part k list ++ own_place (suc (suc j)) ∷ [] in
      let later = listed_choice n (suc k) (suc j) i place e in
      let more = in_left _ (choices n (suc k) (suc j)) here later in
      from_later (λ m. own_place (suc (suc m))) (choices (suc n) k j) j i more

  listed_turns : (n k j c : ℕ) (a : Address) (place : Place Address)
      → turns n k j c a ≡ Some place → In (suc (k + c) ∷ a) (choices n k j)
  listed_turns zero k j c a place e = absurd (cc)
  listed_turns (suc n) k j zero a place e =
      let turn = own_place (suc (suc j)) ∷ [] in
      let first = in_left (suc k ∷ a) (in_part k list) turn (listed_part k _ a place e) in
      let here = in_right (suc k ∷ a) (choices n (suc k) (suc j)) _ first in
      from_first (λ m. suc m ∷ a) (choices (suc n) k j) k here
  listed_turns (suc n) k j (suc c) a place e =
      let here = in_part k list ++ own_place (suc (suc j)) ∷ [] in
      let later = listed_turns n (suc k) (suc j) c a place e in
      let more = in_left _ (choices n (suc k) (suc j)) here later in
      from_later (λ m. suc m ∷ a) (choices (suc n) k j) k c more

  listed_optional : (exit a : Address) (place : Place Address)
      → optional_row pre greedy enter inside exit a ≡ Some place
      → In a (framed (in_part 0 list))
  listed_optional exit (zero ∷ zero ∷ []) place e =
      inr (in_last (own_place 0) (in_part 0 list))
  listed_optional exit (zero ∷ suc zero ∷ []) place e = inl refl
  listed_optional exit (suc zero ∷ a) place e =
      in_framed (1 ∷ a) (in_part 0 list) (listed_part 0 (own pre 1) a place e)
  listed_optional exit a place e = absurd (cc)

  listed_star : (exit a : Address) (place : Place Address)
      → star_row pre greedy enter inside exit a ≡ Some place
      → In a (own_place 0 ∷ in_part 0 list)
  listed_star exit (zero ∷ zero ∷ []) place e = inl refl
  listed_star exit (suc zero ∷ a) place e = inr (listed_part 0 (own pre 0) a place e)
  listed_star exit a place e = absurd (cc)

  listed_nullable_star : (exit a : Address) (place : Place Address)
      → nullable_star_row pre greedy enter inside exit a ≡ Some place
      → In a (own_place 2 ∷ framed (in_part 0 list))
  listed_nullable_star exit (zero ∷ zero ∷ []) place e =
      inr (inr (in_last (own_place 0) (in_part 0 list)))
  listed_nullable_star exit (zero ∷ suc zero ∷ []) place e = inr (inl refl)
  listed_nullable_star exit (zero ∷ suc (suc zero) ∷ []) place e = inl refl
  listed_nullable_star exit (suc zero ∷ a) place e =
      inr (in_framed (1 ∷ a) (in_part 0 list) (listed_part 0 (own pre 1) a place e))
  listed_nullable_star exit a place e = absurd (cc)

  -- an address in the last of n + 1 copies
  listed_last : (n d : ℕ) (after a : Address) (place : Place Address)
      → row 1 (0 + n) after nowhere d a ≡ Some place → In (suc (n + d) ∷ a) (in_part n list)
  listed_last n zero after a place e =
      let here = in_map (λ b. suc n ∷ b) a list (all (part pre (0 + n)) after a place e) in
      from_first (λ m. suc m ∷ a) (in_part n list) n here
  listed_last n (suc d) after a place e = absurd (cc)

  listed_at_least : (n : ℕ) (exit a : Address) (place : Place Address)
      → at_least_row pre greedy enter inside n exit a ≡ Some place
      → In a (own_place 0 ∷ (in_part n list ++ copies n 0))
  listed_at_least n exit (zero ∷ zero ∷ []) place e = inl refl
  listed_at_least n exit (suc c ∷ a) place e =
      let copies_after = row 1 (0 + n) (own pre 0) nowhere in
      let split = copies_before pre greedy enter inside n 0 (own pre 0) nowhere c a in
      let last = enter (part pre (0 + n)) in
      elim (listed_copies n 0 last copies_after c a place (sym split ∙ e)) [
        | inl r ↦
            let here = from_0 (λ m. suc m ∷ a) (copies n 0) c r in
            inr (in_right (suc c ∷ a) (in_part n list) (copies n 0) here)
        | inr r ↦
            let place_there = listed_last n r.0 (own pre 0) a place r.2 in
            let here = subst (λ m. In (suc m ∷ a) (in_part n list)) (sym r.1) place_there in
            inr (in_left (suc c ∷ a) (in_part n list) (copies n 0) here)
      ]
  listed_at_least n exit a place e = absurd (cc)

  listed_exactly : (n : ℕ) (exit a : Address) (place : Place Address)
      → exactly_row pre greedy enter inside n exit a ≡ Some place
      → In a (bounded_addresses list n 0)
  listed_exactly zero exit (zero ∷ zero ∷ []) place e = inl refl
  listed_exactly zero exit a place e = absurd (cc)
  listed_exactly (suc n) exit (suc c ∷ a) place e =
      elim (listed_copies (suc n) 0 exit nowhere c a place e) [
        | inl r ↦ from_0 (λ m. suc m ∷ a) (copies (suc n) 0) c r
        | inr r ↦ absurd (cc)
      ]
  listed_exactly (suc n) exit a place e = absurd (cc)

  -- an address in the copies that are needed, or in the others after them
  listed_needed : (n d c : ℕ) (a : Address) (place : Place Address)
      → row n 0 (own pre 2) (turns (suc d) n 0) c a ≡ Some place
      → In (suc c ∷ a) (copies n 0) ⊎ In (suc c ∷ a) (choices (suc d) n 0)
  listed_needed n d c a place e =
      elim (listed_copies n 0 (own pre 2) (turns (suc d) n 0) c a place e) [
        | inl r ↦ inl (from_0 (λ m. suc m ∷ a) (copies n 0) c r)
        | inr r ↦
            let here = listed_turns (suc d) n 0 r.0 a place r.2 in
            inr (subst (λ m. In (suc m ∷ a) (choices (suc d) n 0)) (sym r.1) here)
      ]

  listed_own_choice : (d n j : ℕ) (place : Place Address)
      → choice_at pre greedy enter inside (suc d) n j ≡ Some place
      → In (own_place (suc (suc j))) (choices (suc d) n 0)
  listed_own_choice d n j place e =
      let here = listed_choice (suc d) n 0 j place e in
      from_0 (λ m. own_place (suc (suc m))) (choices (suc d) n 0) j here

  listed_choices_alone : (d : ℕ) (exit a : Address) (place : Place Address)
      → between_row pre greedy enter inside zero (suc d) exit a ≡ Some place
      → In a (framed (choices (suc (suc d)) 0 0))
  listed_choices_alone d exit (zero ∷ zero ∷ []) place e =
      inr (in_last (own_place 0) (choices (suc (suc d)) 0 0))
  listed_choices_alone d exit (zero ∷ suc zero ∷ []) place e = inl refl
  listed_choices_alone d exit (zero ∷ suc (suc j) ∷ []) place e =
      let here = listed_own_choice (suc d) 0 j place e in
      in_framed (own_place (suc (suc j))) (choices (suc (suc d)) 0 0) here
  listed_choices_alone d exit (suc c ∷ a) place e =
      elim (listed_needed 0 (suc d) c a place e) [
        | inl r ↦ absurd r
        | inr r ↦ in_framed (suc c ∷ a) (choices (suc (suc d)) 0 0) r
      ]
  listed_choices_alone d exit a place e = absurd (cc)

  listed_between : (n d : ℕ) (exit a : Address) (place : Place Address)
      → between_row pre greedy enter inside (suc n) d exit a ≡ Some place
      → In a (bounded_addresses list (suc n) (suc d))
  listed_between n d exit (zero ∷ suc zero ∷ []) place e = inl refl
  listed_between n d exit (zero ∷ suc (suc j) ∷ []) place e =
      let here = listed_own_choice d (suc n) j place e in
      inr (in_left _ (choices (suc d) (suc n) 0) (copies (suc n) 0) here)
  listed_between n d exit (suc c ∷ a) place e =
      elim (listed_needed (suc n) d c a place e) [
        | inl r ↦ inr (in_right (suc c ∷ a) (choices (suc d) (suc n) 0) _ r)
        | inr r ↦ inr (in_left _ (choices (suc d) (suc n) 0) (copies (suc n) 0) r)
      ]
  listed_between n d exit a place e = absurd (cc)

  listed_bounded : (least above : ℕ) (exit a : Address) (place : Place Address)
      → bounded_row pre greedy enter inside least above exit a ≡ Some place
      → In a (bounded_addresses list least above)
  listed_bounded least zero exit a place e = listed_exactly least exit a place e
  listed_bounded zero (suc zero) exit a place e = listed_optional exit a place e
  listed_bounded zero (suc (suc d)) exit a place e = listed_choices_alone d exit a place e
  listed_bounded (suc n) (suc d) exit a place e = listed_between n d exit a place e

  pub listed_repetition : (least : ℕ) (most : Option ℕ) (nullable_body : Bool) (exit a : Address)
      (place : Place Address)
      → repetition_row pre greedy enter inside least most nullable_body exit a ≡ Some place
      → In a (repetition_addresses list least most nullable_body)
  listed_repetition zero None true exit a place e = listed_nullable_star exit a place e
  listed_repetition zero None false exit a place e = listed_star exit a place e
  listed_repetition (suc n) None nullable_body exit a place e = listed_at_least n exit a place e
  listed_repetition zero (Some most) nullable_body exit a place e =
      listed_bounded zero (most - zero) exit a place e
  listed_repetition (suc n) (Some most) nullable_body exit a place e =
      listed_bounded (suc n) (most - suc n) exit a place e
