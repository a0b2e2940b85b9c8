-- A match never goes back, and that of a tree that is not nullable reads a character.
use Rattle.regex_lite_engine.proofs.Common.{◌≡◌, ℕ, zero, suc, ◌<◌, ◌≤◌, Bool, true, false, ◌&&◌}
use Rattle.regex_lite_engine.proofs.Common.{[], ◌∷◌, length, Some, refl, inl, inr, arith, Text}
use Rattle.regex_lite_engine.proofs.Common.{after, Tree, empty, character, class, look, repetition}
use Rattle.regex_lite_engine.proofs.Common.{capture, concat, alternation, Trees, none, more}
use Rattle.regex_lite_engine.proofs.Common.{Matches, Chain, SomeBranch, nullable}
use Rattle.std.proofs.lemmas.Bool.{or_parts}
use Rattle.regex_lite_syntax.specs.Tree.Properties.{is_zero, all_nullable, any_nullable}
use Rattle.regex_lite_syntax.specs.Tree.Matches.{Passes}

some_needed : (least : ℕ) → least ≤ zero → is_zero least ≡ false → ⊥
some_needed zero low e = cc
some_needed (suc n) low e = absurd (omega (arith, low))

-- a character after a position is inside
pub is_inside : (haystack : Text) (i c : ℕ) → after haystack i ≡ Some c → i < length haystack
is_inside [] i c e = absurd cc
is_inside (d ∷ rest) zero c e = omega arith
is_inside (d ∷ rest) (suc i) c e = let later = is_inside rest i c e in omega (arith, later)

module _ (haystack : Text) where
  -- not back, and not out of the haystack
  abbrev pub IsForward : ℕ → ℕ → Type 0
  IsForward i j = (i ≤ j) × (i ≤ length haystack → j ≤ length haystack)

  abbrev pub Reads : ℕ → ℕ → Type 0
  Reads i j = (i < j) × (j ≤ length haystack)

  stays : (i j : ℕ) → i ≡ j → IsForward i j
  stays i j e = (omega (arith, e), λ inside. omega (arith, e, inside))

  reads_one : (i j c : ℕ) → after haystack i ≡ Some c → j ≡ suc i → Reads i j
  reads_one i j c there e =
      let inside = is_inside haystack i c there in
      (omega (arith, e), omega (arith, e, inside))

  weaken : {i j : ℕ} → Reads i j → IsForward i j
  weaken reads = (omega (arith, reads.0), λ inside. reads.1)

  and_forward : (i k j : ℕ) → IsForward i k → IsForward k j → IsForward i j
  and_forward i k j first later =
      (omega (arith, first.0, later.0), λ inside. later.1 (first.1 inside))

  reads_first : (i k j : ℕ) → Reads i k → IsForward k j → Reads i j
  reads_first i k j first later = (omega (arith, first.0, later.0), later.1 first.1)

  reads_later : (i k j : ℕ) → IsForward i k → Reads k j → Reads i j
  reads_later i k j first later = (omega (arith, first.0, later.0), later.1)

  passes_forward : (Pass : ℕ → ℕ → Type 0) → ((i j : ℕ) → Pass i j → IsForward i j)
      → (n i j : ℕ) → Passes Pass n i j → IsForward i j
  passes_forward Pass forward zero i j e = stays i j e
  passes_forward Pass forward (suc n) i j (k, pass, passes) =
      and_forward i k j (forward i k pass) (passes_forward Pass forward n k j passes)

  -- one of two reads
  one_reads : (a b : Bool) (i k j : ℕ) → (a && b) ≡ false → (a ≡ false → Reads i k)
      → (b ≡ false → Reads k j) → IsForward i k → IsForward k j → Reads i j
  one_reads true b i k j e first later on further = reads_later i k j on (later e)
  one_reads false b i k j e first later on further = reads_first i k j (first refl) further

  mutual
    pub is_forward : (tree : Tree) (i j : ℕ) → Matches haystack tree i j → IsForward i j
    is_forward empty i j e = stays i j e
    is_forward (character c) i j (there, e) = weaken (reads_one i j c there e)
    is_forward (class ranges) i j (c, there, is, e) = weaken (reads_one i j c there e)
    is_forward (look test) i j (holds, e) = stays i j e
    is_forward (repetition least most greedy body) i j (n, low, high, passes) =
        passes_forward (Matches haystack body) (λ a b m. is_forward body a b m) n i j passes
    is_forward (capture index name body) i j m = is_forward body i j m
    is_forward (concat parts) i j m = chain_forward parts i j m
    is_forward (alternation branches) i j m = branch_forward branches i j m

    chain_forward : (parts : Trees) (i j : ℕ) → Chain haystack parts i j → IsForward i j
    chain_forward none i j e = stays i j e
    chain_forward (more a rest) i j (k, m, chain) =
        and_forward i k j (is_forward a i k m) (chain_forward rest k j chain)

    branch_forward : (branches : Trees) (i j : ℕ) → SomeBranch haystack branches i j → IsForward i j
    branch_forward none i j some = absurd some
    branch_forward (more a rest) i j (inl m) = is_forward a i j m
    branch_forward (more a rest) i j (inr some) = branch_forward rest i j some

  mutual
    pub reads : (tree : Tree) (i j : ℕ) → nullable tree ≡ false → Matches haystack tree i j
        → Reads i j
    reads empty i j e m = absurd cc
    reads (character c) i j e (there, f) = reads_one i j c there f
    reads (class ranges) i j e (c, there, is, f) = reads_one i j c there f
    reads (look test) i j e m = absurd cc
    reads (repetition least most greedy body) i j e (zero, low, high, passes) =
        absurd (some_needed least low (or_parts (is_zero least) (nullable body) e).0)
    reads (repetition least most greedy body) i j e (suc n, low, high, (k, pass, passes)) =
        let first = reads body i k (or_parts (is_zero least) (nullable body) e).1 pass in
        let later = passes_forward (Matches haystack body) (λ a b m. is_forward body a b m) in
        reads_first i k j first (later n k j passes)
    reads (capture index name body) i j e m = reads body i j e m
    reads (concat parts) i j e m = chain_reads parts i j e m
    reads (alternation branches) i j e m = branch_reads branches i j e m

    chain_reads : (parts : Trees) (i j : ℕ) → all_nullable parts ≡ false → Chain haystack parts i j
        → Reads i j
    chain_reads none i j e m = absurd cc
    chain_reads (more a rest) i j e (k, m, chain) =
        one_reads (nullable a) (all_nullable rest) i k j e (λ f. reads a i k f m)
        (λ f. chain_reads rest k j f chain) (is_forward a i k m) (chain_forward rest k j chain)

    branch_reads : (branches : Trees) (i j : ℕ) → any_nullable branches ≡ false
        → SomeBranch haystack branches i j → Reads i j
    branch_reads none i j e some = absurd some
    branch_reads (more a rest) i j e (inl m) =
        reads a i j (or_parts (nullable a) (any_nullable rest) e).0 m
    branch_reads (more a rest) i j e (inr some) =
        branch_reads rest i j (or_parts (nullable a) (any_nullable rest) e).1 some
