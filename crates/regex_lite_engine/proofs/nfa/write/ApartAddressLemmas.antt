-- No address comes twice among the addresses of a tree's places.
use Rattle.regex_lite_engine.proofs.Common.{◌≡◌, ℕ, zero, suc, ◌+◌, ◌-◌, ◌<◌, ◌≤◌, Bool, true}
use Rattle.regex_lite_engine.proofs.Common.{false, ◌⊎◌, List, [], ◌∷◌, ◌++◌, Some, None, Option}
use Rattle.regex_lite_engine.proofs.Common.{refl, ap, inl, inr, arith, Tree, empty, character}
use Rattle.regex_lite_engine.proofs.Common.{class, look, repetition, capture, concat, alternation}
use Rattle.regex_lite_engine.proofs.Common.{Trees, none, more, nullable, Address}
use Rattle.regex_lite_engine.proofs.graph.AddressLemmas.{own_place, in_part, framed}
use Rattle.regex_lite_engine.proofs.graph.AddressLemmas.{copies_addresses, choices_addresses}
use Rattle.regex_lite_engine.proofs.graph.AddressLemmas.{bounded_addresses}
use Rattle.regex_lite_engine.proofs.graph.AddressLemmas.{repetition_addresses, addresses}
use Rattle.regex_lite_engine.proofs.graph.AddressLemmas.{chain_addresses, branches_addresses}
use Rattle.regex_lite_engine.proofs.nfa.write.ApartLemmas.{Each, Apart, each_weaker}
use Rattle.regex_lite_engine.proofs.nfa.write.ApartLemmas.{each_both, apart_both, apart_first}
use Rattle.regex_lite_engine.proofs.nfa.write.ApartLemmas.{apart_last, apart_part}

-- one more than the part that the address leads into, or else 0
abbrev pub part_of : Address → ℕ
part_of [] = 0
part_of (c ∷ a) = c

-- one more than the own place that it is, or else 0
abbrev pub own_of : Address → ℕ
own_of [] = 0
own_of (suc c ∷ a) = 0
own_of (zero ∷ []) = 0
own_of (zero ∷ k ∷ a) = suc k

abbrev InAPart : Address → Type 0
InAPart a = own_of a ≡ 0

abbrev pub InPart : ℕ → Address → Type 0
InPart k a = (part_of a ≡ suc k) × InAPart a

-- in one of n parts from part k on
abbrev InParts : ℕ → ℕ → Address → Type 0
InParts k n a = (k < part_of a) × (part_of a ≤ k + n) × InAPart a

-- in part k or a later one
abbrev InPartFrom : ℕ → Address → Type 0
InPartFrom k a = (k < part_of a) × InAPart a

-- own, or in part k or a later one
abbrev OwnOrFrom : ℕ → Address → Type 0
OwnOrFrom k a = 0 < part_of a → k < part_of a

-- and if it is own, place j + 1 or a later one
abbrev From : ℕ → ℕ → Address → Type 0
From k j a = OwnOrFrom k a × (0 < own_of a → suc j < own_of a)

-- own place j - 1 or an earlier one, or in a part
abbrev IsOwnBelow : ℕ → Address → Type 0
IsOwnBelow j a = own_of a ≤ j

-- not own place 1
abbrev IsNotJoin : Address → Type 0
IsNotJoin a = own_of a ≡ 2 → ⊥

pub each_in_part : (k : ℕ) (list : List Address) → Each (InPart k) (in_part k list)
each_in_part k [] = tt
each_in_part k (a ∷ list) = ((refl, refl), each_in_part k list)

in_a_part : (k : ℕ) (list : List Address) → Each InAPart (in_part k list)
in_a_part k list =
    each_weaker (InPart k) InAPart (λ a r. r.1) (in_part k list) (each_in_part k list)

part_from : (k j : ℕ) (a : Address) → InPart k a → From k j a
part_from k j a r = ((λ some. omega arith), (λ some. omega arith))

later_from : (k j : ℕ) (a : Address) → From (suc k) (suc j) a → From k j a
later_from k j a from = (
  λ some. let later = from.0 some in omega arith,
  λ some. let later = from.1 some in omega arith,
)

later_parts : (k n : ℕ) (a : Address) → InParts (suc k) n a → InParts k (suc n) a
later_parts k n a r = (omega arith, omega arith, r.2)

this_of_parts : (k n : ℕ) (a : Address) → InPart k a → InParts k (suc n) a
this_of_parts k n a r = (omega arith, omega arith, r.1)

-- parts before part k are not from it on
parts_or_from : (k : ℕ) (a : Address) → OwnOrFrom k a → InParts 0 k a → ⊥
parts_or_from k a from r = let later = from r.0 in omega arith

from_not_0 : (k j : ℕ) → From k j (own_place 0) → ⊥
from_not_0 k j from = let later = from.1 (omega arith) in omega arith

from_not_join : (k : ℕ) (a : Address) → From k 1 a → IsNotJoin a
from_not_join k a from e =
    let some : 0 < own_of a = omega arith in let later = from.1 some in omega arith

-- own place 1, others, own place 0
apart_framed : (list : List Address) → Each InAPart list → Apart list → Apart (framed list)
apart_framed list each r =
    let last = apart_last (own_place 0) InAPart (λ e. omega arith) list each r in
    let below = each_weaker InAPart (IsOwnBelow 1) (λ a e. omega arith) list each in
    let others = each_both (IsOwnBelow 1) list (own_place 0 ∷ []) below (omega arith, tt) in
    apart_first (own_place 1) (IsOwnBelow 1) (λ l. omega arith) _ others last

module _ (body : List Address) (apart : Apart body) where
  abbrev copies : (left k : ℕ) → List Address
  copies = copies_addresses body

  abbrev choices : (left k j : ℕ) → List Address
  choices = choices_addresses body

  in_copies : (n k : ℕ) → Each (InParts k n) (copies n k)
  in_copies zero k = tt
  in_copies (suc n) k =
      let P = InParts k (suc n) in
      let others = copies n (suc k) in
      let rest = each_weaker _ P (later_parts k n) others (in_copies n (suc k)) in
      let first = each_weaker _ P (this_of_parts k n) (in_part k body) (each_in_part k body) in
      each_both P others (in_part k body) rest first

  apart_copies : (n k : ℕ) → Apart (copies n k)
  apart_copies zero k = tt
  apart_copies (suc n) k =
      let clash : (a : Address) → InParts (suc k) n a → InPart k a → ⊥ = λ a r s. omega arith in
      let here = apart_part k body apart in
      apart_both _ (InPart k) clash (copies n (suc k)) (in_part k body) (in_copies n (suc k))
      (each_in_part k body) (apart_copies n (suc k)) here

  in_choices : (n k j : ℕ) → Each (From k (suc j)) (choices n k j)
  in_choices zero k j = tt
  in_choices (suc n) k j =
      let P = From k (suc j) in
      let others = choices n (suc k) (suc j) in
      let later = later_from k (suc j) in
      let rest = each_weaker _ P later others (in_choices n (suc k) (suc j)) in
      let first = each_weaker _ P (part_from k (suc j)) (in_part k body) (each_in_part k body) in
      let turn : P (own_place (suc (suc j))) = ((λ some. omega arith), (λ some. omega arith)) in
      each_both P others _ rest (each_both P (in_part k body) _ first (turn, tt))

  -- in copy k, or the choice before it
  abbrev OfTurn : ℕ → ℕ → Address → Type 0
  OfTurn k j a = InPart k a ⊎ (a ≡ own_place (suc (suc j)))

  later_turns : (k j : ℕ) (a : Address) → From (suc k) (suc (suc j)) a → OfTurn k j a → ⊥
  later_turns k j a from (inl r) =
      let some : 0 < part_of a = omega arith in let later = from.0 some in omega arith
  later_turns k j a from (inr e) =
      let own : own_of a ≡ suc (suc (suc j)) = ap own_of e in
      let some : 0 < own_of a = omega arith in
      let later = from.1 some in omega arith

  apart_choices : (n k j : ℕ) → Apart (choices n k j)
  apart_choices zero k j = tt
  apart_choices (suc n) k j =
      let P = From (suc k) (suc (suc j)) in
      let turn = own_place (suc (suc j)) in
      let others = choices n (suc k) (suc j) in
      let inner = in_part k body in
      let each = each_in_part k body in
      let of_body = each_weaker (InPart k) (OfTurn k j) (λ a r. inl r) inner each in
      let of_turn = each_both (OfTurn k j) inner (turn ∷ []) of_body (inr refl, tt) in
      let apart_inner = apart_part k body apart in
      let here = apart_last turn (InPart k) (λ r. omega arith) inner each apart_inner in
      let later = in_choices n (suc k) (suc j) in
      let both = apart_both P (OfTurn k j) (later_turns k j) others (inner ++ turn ∷ []) later in
      both of_turn (apart_choices n (suc k) (suc j)) here

  choices_not_join : (n k : ℕ) → Each IsNotJoin (choices n k 0)
  choices_not_join n k =
      each_weaker _ IsNotJoin (from_not_join k) (choices n k 0) (in_choices n k 0)

  apart_choices_alone : (d : ℕ) → Apart (framed (choices d 0 0))
  apart_choices_alone d =
      let list = choices d 0 0 in
      let each = in_choices d 0 0 in
      let apart_list = apart_choices d 0 0 in
      let last = apart_last (own_place 0) (From 0 1) (from_not_0 0 1) list each apart_list in
      let alone : IsNotJoin (own_place 0) = λ e. omega arith in
      let others = each_both IsNotJoin list _ (choices_not_join d 0) (alone, tt) in
      apart_first (own_place 1) IsNotJoin (λ f. f refl) (list ++ own_place 0 ∷ []) others last

  apart_between : (n d : ℕ) → Apart (bounded_addresses body (suc n) (suc d))
  apart_between n d =
      let optional = choices (suc d) (suc n) 0 in
      let needed = copies (suc n) 0 in
      let in_optional = in_choices (suc d) (suc n) 0 in
      let in_needed = in_copies (suc n) 0 in
      let P = From (suc n) 1 in
      let clash = λ (a : Address) (from : P a). parts_or_from (suc n) a from.0 in
      let both = apart_both P (InParts 0 (suc n)) clash optional needed in_optional in_needed in
      let rest = both (apart_choices (suc d) (suc n) 0) (apart_copies (suc n) 0) in
      let no_choice = choices_not_join (suc d) (suc n) in
      let no_copy = each_weaker _ IsNotJoin (λ a r e. omega arith) needed in_needed in
      let others = each_both IsNotJoin optional needed no_choice no_copy in
      apart_first (own_place 1) IsNotJoin (λ f. f refl) (optional ++ needed) others rest

  apart_bounded : (least above : ℕ) → Apart (bounded_addresses body least above)
  apart_bounded zero zero = (tt, tt)
  apart_bounded (suc n) zero = apart_copies (suc n) 0
  apart_bounded zero (suc zero) =
      apart_framed (in_part 0 body) (in_a_part 0 body) (apart_part 0 body apart)
  apart_bounded zero (suc (suc d)) = apart_choices_alone (suc (suc d))
  apart_bounded (suc n) (suc d) = apart_between n d

  apart_star : (k : ℕ) → Apart (own_place 0 ∷ in_part k body)
  apart_star k =
      let inner = apart_part k body apart in
      apart_first (own_place 0) InAPart (λ e. omega arith) (in_part k body) (in_a_part k body) inner

  apart_nullable_star : Apart (own_place 2 ∷ framed (in_part 0 body))
  apart_nullable_star =
      let list = in_part 0 body in
      let each = in_a_part 0 body in
      let below = each_weaker InAPart (IsOwnBelow 2) (λ a e. omega arith) list each in
      let question = each_both (IsOwnBelow 2) list (own_place 0 ∷ []) below (omega arith, tt) in
      let rest = apart_framed list each (apart_part 0 body apart) in
      let others : Each (IsOwnBelow 2) (framed list) = (omega arith, question) in
      apart_first (own_place 2) (IsOwnBelow 2) (λ l. omega arith) (framed list) others rest

  apart_at_least : (n : ℕ) → Apart (own_place 0 ∷ (in_part n body ++ copies n 0))
  apart_at_least n =
      let P = OwnOrFrom n in
      let star = own_place 0 ∷ in_part n body in
      let last = each_weaker _ P (λ a r some. omega arith) (in_part n body) (each_in_part n body) in
      let in_star : Each P star = ((λ some. omega arith), last) in
      let both = apart_both P (InParts 0 n) (parts_or_from n) star (copies n 0) in_star in
      both (in_copies n 0) (apart_star n) (apart_copies n 0)

  apart_repetition : (least : ℕ) (most : Option ℕ) (nullable_body : Bool)
      → Apart (repetition_addresses body least most nullable_body)
  apart_repetition zero None true = apart_nullable_star
  apart_repetition zero None false = apart_star 0
  apart_repetition (suc n) None nullable_body = apart_at_least n
  apart_repetition zero (Some most) nullable_body = apart_bounded zero (most - zero)
  apart_repetition (suc n) (Some most) nullable_body = apart_bounded (suc n) (most - suc n)

-- an address in a later part, or in this one
later_part : (k : ℕ) (a : Address) → InPartFrom (suc k) a → InPartFrom k a
later_part k a r = (omega arith, r.1)

this_part : (k : ℕ) (a : Address) → InPart k a → InPartFrom k a
this_part k a r = (omega arith, r.1)

in_chain : (parts : Trees) (k : ℕ) → Each (InPartFrom k) (chain_addresses parts k)
in_chain none k = tt
in_chain (more a rest) k =
    let others = chain_addresses rest (suc k) in
    let here = in_part k (addresses a) in
    let later = each_weaker _ (InPartFrom k) (later_part k) others (in_chain rest (suc k)) in
    let first = each_weaker _ (InPartFrom k) (this_part k) here (each_in_part k (addresses a)) in
    each_both (InPartFrom k) others here later first

in_branches : (branches : Trees) (k : ℕ) → Each (InPartFrom k) (branches_addresses branches k)
in_branches none k = tt
in_branches (more a rest) k =
    let others = branches_addresses rest (suc k) in
    let here = in_part k (addresses a) in
    let first = each_weaker _ (InPartFrom k) (this_part k) here (each_in_part k (addresses a)) in
    let later = each_weaker _ (InPartFrom k) (later_part k) others (in_branches rest (suc k)) in
    each_both (InPartFrom k) here others first later

mutual
  pub apart_addresses : (tree : Tree) → Apart (addresses tree)
  apart_addresses empty = (tt, tt)
  apart_addresses (character c) = (tt, tt)
  apart_addresses (class ranges) = (tt, tt)
  apart_addresses (look test) = (tt, tt)
  apart_addresses (repetition least most greedy body) =
      apart_repetition (addresses body) (apart_addresses body) least most (nullable body)
  apart_addresses (capture index name body) =
      let list = addresses body in
      let inner = apart_part 0 list (apart_addresses body) in
      apart_framed (in_part 0 list) (in_a_part 0 list) inner
  apart_addresses (concat parts) = apart_chain parts 0
  apart_addresses (alternation branches) =
      let list = branches_addresses branches 0 in
      let each = each_weaker (InPartFrom 0) InAPart (λ a r. r.1) list (in_branches branches 0) in
      apart_framed list each (apart_branches branches 0)

  apart_chain : (parts : Trees) (k : ℕ) → Apart (chain_addresses parts k)
  apart_chain none k = tt
  apart_chain (more a rest) k =
      let clash : (b : Address) → InPartFrom (suc k) b → InPart k b → ⊥ = λ b r s. omega arith in
      let list = addresses a in
      let others = chain_addresses rest (suc k) in
      let both = apart_both _ (InPart k) clash others (in_part k list) (in_chain rest (suc k)) in
      let here = apart_part k list (apart_addresses a) in
      both (each_in_part k list) (apart_chain rest (suc k)) here

  apart_branches : (branches : Trees) (k : ℕ) → Apart (branches_addresses branches k)
  apart_branches none k = tt
  apart_branches (more a rest) k =
      let clash : (b : Address) → InPart k b → InPartFrom (suc k) b → ⊥ = λ b r s. omega arith in
      let list = addresses a in
      let others = branches_addresses rest (suc k) in
      let both = apart_both (InPart k) _ clash (in_part k list) others (each_in_part k list) in
      let here = apart_part k list (apart_addresses a) in
      both (in_branches rest (suc k)) here (apart_branches rest (suc k))
