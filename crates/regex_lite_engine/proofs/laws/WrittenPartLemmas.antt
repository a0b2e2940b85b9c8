-- What a graph has at the addresses of a row of the table, and of its parts.
use Rattle.regex_lite_engine.proofs.Common.{◌≡◌, ℕ, suc, ◌+◌, [], ◌∷◌, ◌++◌, Some, ap, ◌∙◌, subst}
use Rattle.regex_lite_engine.proofs.Common.{append_assoc, arith, Address, part, Content}
use Rattle.regex_lite_engine.specs.Graph.Places.{Place}

-- after the address the graph has what the row gives
pub record HasRow (place : Address → Place Address) (pre : Address) (row : Address → Content)
    : Type 0 where
  pub at : (a : Address) {p : Place Address} → row a ≡ Some p → place (pre ++ a) ≡ p

-- so it does for each of the parts, which are numbered from k on
pub record HasParts (place : Address → Place Address) (pre : Address) (k : ℕ)
    (parts : ℕ → Address → Content) : Type 0 where
  pub of : (c n : ℕ) → n ≡ k + c → HasRow place (part pre n) (parts c)

module _ {place : Address → Place Address} {pre : Address} where
  pub has_part : {row : Address → Content} (k : ℕ) → HasRow place pre row
      → HasRow place (part pre k) (λ a. row (suc k ∷ a))
  has_part k has =
      record { at = λ a e. ap place (append_assoc pre (suc k ∷ []) a) ∙ has.at (suc k ∷ a) e }

  pub has_parts : {row : Address → Content} → HasRow place pre row
      → HasParts place pre 0 (λ c a. row (suc c ∷ a))
  has_parts {row} has = record {
    of = λ c n e. (
        let same : c ≡ n = omega (arith, e) in
        subst (λ z. HasRow place (part pre z) (λ a. row (suc c ∷ a))) same (has_part c has));
  }

  pub first_part : {k : ℕ} {parts : ℕ → Address → Content} → HasParts place pre k parts
      → HasRow place (part pre k) (parts 0)
  first_part {k = k} has = has.of 0 k (omega arith)

  pub later_parts : {k : ℕ} {parts : ℕ → Address → Content} → HasParts place pre k parts
      → HasParts place pre (suc k) (λ c. parts (suc c))
  later_parts has = record { of = λ c n e. has.of (suc c) n (omega (arith, e)) }
