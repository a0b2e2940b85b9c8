-- The addresses of a tree's places in the order of its layout, without the tree's own in front.
use Rattle.regex_lite_engine.proofs.Common.{ℕ, zero, suc, ◌-◌, Bool, true, false, List, [], ◌∷◌}
use Rattle.regex_lite_engine.proofs.Common.{◌++◌, map, Some, None, Option, Tree, empty, character}
use Rattle.regex_lite_engine.proofs.Common.{class, look, repetition, capture, concat, alternation}
use Rattle.regex_lite_engine.proofs.Common.{Trees, none, more, nullable, Address}

-- the address of the tree's own place k
abbrev pub own_place : ℕ → Address
own_place k = zero ∷ k ∷ []

-- addresses of part, branch or copy k
abbrev pub in_part : ℕ → List Address → List Address
in_part k list = map (λ a. suc k ∷ a) list

-- these between the tree's own places 1 and 0
abbrev pub framed : List Address → List Address
framed list = own_place 1 ∷ (list ++ own_place 0 ∷ [])

module _ (body : List Address) where
  -- this many copies from copy k on, the last first
  abbrev pub copies_addresses : (left k : ℕ) → List Address
  copies_addresses zero k = []
  copies_addresses (suc left) k = copies_addresses left (suc k) ++ in_part k body

  -- this many copies from copy k on, each with the choice before it, the first of which is choice j
  abbrev pub choices_addresses : (left k j : ℕ) → List Address
  choices_addresses zero k j = []
  choices_addresses (suc left) k j =
      choices_addresses left (suc k) (suc j) ++ (in_part k body ++ own_place (suc (suc j)) ∷ [])

  -- by the least number and what the most is above it
  abbrev pub bounded_addresses : (least above : ℕ) → List Address
  bounded_addresses zero zero = own_place 0 ∷ []
  bounded_addresses (suc n) zero = copies_addresses (suc n) 0
  bounded_addresses zero (suc zero) = framed (in_part 0 body)
  bounded_addresses zero (suc (suc d)) = framed (choices_addresses (suc (suc d)) 0 0)
  bounded_addresses (suc n) (suc d) =
      own_place 1 ∷ (choices_addresses (suc d) (suc n) 0 ++ copies_addresses (suc n) 0)

  abbrev pub repetition_addresses : (least : ℕ) → (most : Option ℕ) → (nullable_body : Bool)
      → List Address
  repetition_addresses zero None true = own_place 2 ∷ framed (in_part 0 body)
  repetition_addresses zero None false = own_place 0 ∷ in_part 0 body
  repetition_addresses (suc n) None nullable_body =
      own_place 0 ∷ (in_part n body ++ copies_addresses n 0)
  repetition_addresses least (Some most) nullable_body = bounded_addresses least (most - least)

abbrev mutual
  pub addresses : Tree → List Address
  addresses empty = own_place 0 ∷ []
  addresses (character c) = own_place 0 ∷ []
  addresses (class ranges) = own_place 0 ∷ []
  addresses (look test) = own_place 0 ∷ []
  addresses (repetition least most greedy body) =
      repetition_addresses (addresses body) least most (nullable body)
  addresses (capture index name body) = framed (in_part 0 (addresses body))
  addresses (concat parts) = chain_addresses parts 0
  addresses (alternation branches) = framed (branches_addresses branches 0)

  -- the parts, which are numbered from k on, the last first
  pub chain_addresses : Trees → ℕ → List Address
  chain_addresses none k = []
  chain_addresses (more a rest) k = chain_addresses rest (suc k) ++ in_part k (addresses a)

  pub branches_addresses : Trees → ℕ → List Address
  branches_addresses none k = []
  branches_addresses (more a rest) k = in_part k (addresses a) ++ branches_addresses rest (suc k)
