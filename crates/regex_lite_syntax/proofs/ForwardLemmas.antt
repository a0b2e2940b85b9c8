-- A match never goes back, nor out of the haystack.
use Rattle.regex_lite_syntax.proofs.Common.{◌≡◌, ℕ, zero, suc, ◌<◌, ◌≤◌, [], ◌∷◌, length, Some}
use Rattle.regex_lite_syntax.proofs.Common.{inl, inr, arith, Text, after, Tree, class, look}
use Rattle.regex_lite_syntax.proofs.Common.{repetition, concat, alternation, Trees, more, Matches}
use Rattle.regex_lite_syntax.proofs.Common.{Chain, SomeBranch}
use Rattle.regex_lite_syntax.specs.Tree.{empty, character, capture, none}
use Rattle.regex_lite_syntax.specs.Tree.Matches.{Passes}

-- a character after a position is inside
pub is_inside : (haystack : Text) (i c : ℕ) → after haystack i ≡ Some c → i < length haystack
is_inside [] i c e = absurd cc
is_inside (d ∷ rest) zero c e = omega arith
is_inside (d ∷ rest) (suc i) c e = let later = is_inside rest i c e in omega (arith, later)

module _ (haystack : Text) where
  -- not back, and not out of the haystack
  abbrev pub IsForward : ℕ → ℕ → Type 0
  IsForward i j = (i ≤ j) × (i ≤ length haystack → j ≤ length haystack)

  abbrev pub Reads : ℕ → ℕ → Type 0
  Reads i j = (i < j) × (j ≤ length haystack)

  stays : (i j : ℕ) → i ≡ j → IsForward i j
  stays i j e = (omega (arith, e), λ inside. omega (arith, e, inside))

  pub reads_one : (i j c : ℕ) → after haystack i ≡ Some c → j ≡ suc i → Reads i j
  reads_one i j c there e =
      let inside = is_inside haystack i c there in
      (omega (arith, e), omega (arith, e, inside))

  weaken : {i j : ℕ} → Reads i j → IsForward i j
  weaken reads = (omega (arith, reads.0), λ inside. reads.1)

  and_forward : (i k j : ℕ) → IsForward i k → IsForward k j → IsForward i j
  and_forward i k j first later =
      (omega (arith, first.0, later.0), λ inside. later.1 (first.1 inside))

  pub passes_forward : (Pass : ℕ → ℕ → Type 0) → ((i j : ℕ) → Pass i j → IsForward i j)
      → (n i j : ℕ) → Passes Pass n i j → IsForward i j
  passes_forward Pass forward zero i j e = stays i j e
  passes_forward Pass forward (suc n) i j (k, pass, passes) =
      and_forward i k j (forward i k pass) (passes_forward Pass forward n k j passes)

  mutual
    pub is_forward : (tree : Tree) (i j : ℕ) → Matches haystack tree i j → IsForward i j
    is_forward empty i j e = stays i j e
    is_forward (character c) i j (there, e) = weaken (reads_one i j c there e)
    is_forward (class ranges) i j (c, there, is, e) = weaken (reads_one i j c there e)
    is_forward (look test) i j (holds, e) = stays i j e
    is_forward (repetition least most greedy body) i j (n, low, high, passes) =
        passes_forward (Matches haystack body) (λ a b m. is_forward body a b m) n i j passes
    is_forward (capture index name body) i j m = is_forward body i j m
    is_forward (concat parts) i j m = chain_forward parts i j m
    is_forward (alternation branches) i j m = branch_forward branches i j m

    pub chain_forward : (parts : Trees) (i j : ℕ) → Chain haystack parts i j → IsForward i j
    chain_forward none i j e = stays i j e
    chain_forward (more a rest) i j (k, m, chain) =
        and_forward i k j (is_forward a i k m) (chain_forward rest k j chain)

    branch_forward : (branches : Trees) (i j : ℕ) → SomeBranch haystack branches i j → IsForward i j
    branch_forward none i j some = absurd some
    branch_forward (more a rest) i j (inl m) = is_forward a i j m
    branch_forward (more a rest) i j (inr some) = branch_forward rest i j some
