-- That an address is in a list of addresses.
use Rattle.regex_lite_engine.proofs.Common.{◌≡◌, ℕ, suc, ◌+◌, ◌<◌, List, [], ◌∷◌, length, get_or}
use Rattle.regex_lite_engine.proofs.Common.{subst, inr, arith, slice_get_within, Address}
use Rattle.std.proofs.lemmas.Option.{get_or_from_slice_get}
use Rattle.regex_lite_engine.proofs.graph.AddressLemmas.{own_place, framed}
use Rattle.regex_lite_engine.proofs.InLemmas.{In, in_left, number_of}

pub in_framed : (a : Address) (list : List Address) → In a list → In a (framed list)
in_framed a list r = inr (in_left a list (own_place 0 ∷ []) r)

-- one of a row of addresses that is counted from some number on
module _ (address : ℕ → Address) (list : List Address) where
  pub from_0 : (c : ℕ) → In (address (0 + c)) list → In (address c) list
  from_0 c r =
      let same : 0 + c ≡ c = omega arith in subst (λ n. In (address n) list) same r

  pub from_first : (k : ℕ) → In (address k) list → In (address (k + 0)) list
  from_first k r =
      let same : k ≡ k + 0 = omega arith in subst (λ n. In (address n) list) same r

  pub from_later : (k c : ℕ) → In (address (suc k + c)) list
      → In (address (k + suc c)) list
  from_later k c r =
      let same : suc k + c ≡ k + suc c = omega arith in subst (λ n. In (address n) list) same r

-- its number in the list
pub address_number : (a : Address) (list : List Address) → In a list
    → (q : ℕ) × (q < length list) × (get_or list q [] ≡ a)
address_number a list r =
    let (q, at) = number_of a list r in
    (q, slice_get_within list q a at, get_or_from_slice_get list q a [] at)
