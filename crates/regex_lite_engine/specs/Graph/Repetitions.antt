-- The rows of the written-out pattern for repetitions.
use Rattle.std.specs.Prelude.{ℕ, zero, suc, ◌-◌, Bool, true, false, [], ◌∷◌, Option, Some, None}
use Rattle.regex_lite_engine.specs.Graph.Places.{Place, with_arrows, go, choice}
use Rattle.regex_lite_engine.specs.Graph.Addresses.{Address, part, own}

-- the place at an address inside a tree, if there is one
abbrev pub Content : Type 0
Content = Option (Place Address)

-- The rows of a repetition at `pre`: `enter` gives its body's entry, `inside` the body's places,
-- and `exit` is what follows.
module _ (pre : Address) (greedy : Bool) (enter : Address → Address)
    (inside : Address → (exit : Address) → Address → Content) where
  -- the entry of copy k if another copy is left, or else what follows
  abbrev pub next_copy : (left k : ℕ) → (exit : Address) → Address
  next_copy zero k exit = exit
  next_copy (suc left) k exit = enter (part pre k)

  -- copies from copy k on, each leading to the next, and then `rest`
  abbrev pub in_copies : (left k : ℕ) → (exit : Address) → (rest : ℕ → Address → Content)
      → ℕ → Address → Content
  in_copies zero k exit rest c a = rest c a
  in_copies (suc left) k exit rest zero a = inside (part pre k) (next_copy left (suc k) exit) a
  in_copies (suc left) k exit rest (suc c) a = in_copies left (suc k) exit rest c a

  abbrev pub no_place : ℕ → Address → Content
  no_place c a = None

  -- {0,1}: the choice is 0, the join 1
  abbrev pub optional_row : (exit : Address) → Address → Content
  optional_row exit (zero ∷ zero ∷ []) = Some (choice greedy (enter (part pre 0)) (own pre 1))
  optional_row exit (zero ∷ suc zero ∷ []) = Some (with_arrows (go exit ∷ []))
  optional_row exit (suc zero ∷ a) = inside (part pre 0) (own pre 1) a
  optional_row exit a = None

  -- {0,} around a body that is not nullable: the choice is 0
  abbrev pub star_row : (exit : Address) → Address → Content
  star_row exit (zero ∷ zero ∷ []) = Some (choice greedy (enter (part pre 0)) exit)
  star_row exit (suc zero ∷ a) = inside (part pre 0) (own pre 0) a
  star_row exit a = None

  -- {0,} around a nullable body: the question is 0, the plus 1, the join 2
  abbrev pub nullable_star_row : (exit : Address) → Address → Content
  nullable_star_row exit (zero ∷ zero ∷ []) =
      Some (choice greedy (enter (part pre 0)) (own pre 2))
  nullable_star_row exit (zero ∷ suc zero ∷ []) =
      Some (choice greedy (enter (part pre 0)) (own pre 2))
  nullable_star_row exit (zero ∷ suc (suc zero) ∷ []) = Some (with_arrows (go exit ∷ []))
  nullable_star_row exit (suc zero ∷ a) = inside (part pre 0) (own pre 1) a
  nullable_star_row exit a = None

  -- {n + 1,}: the choice after the last copy is 0
  abbrev pub at_least_row : (n : ℕ) → (exit : Address) → Address → Content
  at_least_row n exit (zero ∷ zero ∷ []) = Some (choice greedy (enter (part pre n)) exit)
  at_least_row n exit (suc c ∷ a) = in_copies (suc n) 0 (own pre 0) no_place c a
  at_least_row n exit a = None

  -- {n}; without a copy there is an empty place
  abbrev pub exactly_row : (n : ℕ) → (exit : Address) → Address → Content
  exactly_row zero exit (zero ∷ zero ∷ []) = Some (with_arrows (go exit ∷ []))
  exactly_row n exit (suc c ∷ a) = in_copies n 0 exit no_place c a
  exactly_row n exit a = None

  -- choice j of those that are left, the first of which comes before copy k
  abbrev pub choice_at : (left k j : ℕ) → Content
  choice_at zero k j = None
  choice_at (suc left) k zero = Some (choice greedy (enter (part pre k)) (own pre 1))
  choice_at (suc left) k (suc j) = choice_at left (suc k) j

  -- choice j if another choice is left, or else the join
  abbrev pub next_choice : (left j : ℕ) → Address
  next_choice zero j = own pre 1
  next_choice (suc left) j = own pre (suc (suc j))

  -- copies from copy k on, each after a choice, the first of which is choice j
  abbrev pub in_choices : (left k j : ℕ) → ℕ → Address → Content
  in_choices zero k j c a = None
  in_choices (suc left) k j zero a = inside (part pre k) (next_choice left (suc j)) a
  in_choices (suc left) k j (suc c) a = in_choices left (suc k) (suc j) c a

  -- {m,m + d + 1}: the empty place that stands for no copy is 0, the join 1, and choice j is j + 2
  abbrev pub between_row : (m d : ℕ) → (exit : Address) → Address → Content
  between_row zero d exit (zero ∷ zero ∷ []) = Some (with_arrows (go (own pre 2) ∷ []))
  between_row m d exit (zero ∷ suc zero ∷ []) = Some (with_arrows (go exit ∷ []))
  between_row m d exit (zero ∷ suc (suc j) ∷ []) = choice_at (suc d) m j
  between_row m d exit (suc c ∷ a) = in_copies m 0 (own pre 2) (in_choices (suc d) m 0) c a
  between_row m d exit a = None

  -- the rows by the least number and the difference between the most and the least
  abbrev pub bounded_row : (least above : ℕ) → (exit : Address) → Address → Content
  bounded_row least zero = exactly_row least
  bounded_row zero (suc zero) = optional_row
  bounded_row least (suc d) = between_row least d

  abbrev pub repetition_row : (least : ℕ) → (most : Option ℕ) → (nullable_body : Bool)
      → (exit : Address) → Address → Content
  repetition_row zero None true = nullable_star_row
  repetition_row zero None false = star_row
  repetition_row (suc n) None nullable_body = at_least_row n
  repetition_row least (Some most) nullable_body = bounded_row least (most - least)
