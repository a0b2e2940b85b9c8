-- Lists of which the elements belong together pairwise.
use Rattle.regex_lite.proofs.Common.{◌≡◌, ℕ, zero, suc, List, [], ◌∷◌, ◌++◌, map, length, slice_get}
use Rattle.regex_lite.proofs.Common.{Some, refl, ap, arith}
use Rattle.regex_lite_syntax.proofs.OptionLemmas.{same_some}
use Rattle.regex_lite.specs.RegexList.{AllPaired}

module _ {A B : Type 0} (R : A → B → Type 0) where
  -- there are as many of both
  pub paired_length : (xs : List A) (ys : List B) → AllPaired R xs ys → length xs ≡ length ys
  paired_length [] [] p = refl
  paired_length [] (y ∷ ys) p = absurd p
  paired_length (x ∷ xs) [] p = absurd p
  paired_length (x ∷ xs) (y ∷ ys) (p, ps) = ap suc (paired_length xs ys ps)

  -- each of the first has one of the second with its number
  pub paired_at : (xs : List A) (ys : List B) (k : ℕ) (x : A) → AllPaired R xs ys
      → slice_get xs k ≡ Some x → (y : B) × (slice_get ys k ≡ Some y) × R x y
  paired_at [] ys k x p there = absurd cc
  paired_at (x ∷ xs) [] k own p there = absurd p
  paired_at (x ∷ xs) (y ∷ ys) zero own (p, ps) there = (y, refl, rw (← same_some there) p)
  paired_at (x ∷ xs) (y ∷ ys) (suc k) own (p, ps) there = paired_at xs ys k own ps there

  -- and the other way round
  pub paired_back : (xs : List A) (ys : List B) (k : ℕ) (y : B) → AllPaired R xs ys
      → slice_get ys k ≡ Some y → (x : A) × (slice_get xs k ≡ Some x) × R x y
  paired_back xs [] k y p there = absurd cc
  paired_back [] (y ∷ ys) k own p there = absurd p
  paired_back (x ∷ xs) (y ∷ ys) zero own (p, ps) there = (x, refl, rw (← same_some there) p)
  paired_back (x ∷ xs) (y ∷ ys) (suc k) own (p, ps) there = paired_back xs ys k own ps there

  -- as many of both, of which those with one number belong together, are paired
  pub paired_from : (xs : List A) (ys : List B) → length xs ≡ length ys
      → ((k : ℕ) (x : A) (y : B) → slice_get xs k ≡ Some x → slice_get ys k ≡ Some y → R x y)
      → AllPaired R xs ys
  paired_from [] [] same each = tt
  paired_from [] (y ∷ ys) same each = absurd cc
  paired_from (x ∷ xs) [] same each = absurd cc
  paired_from (x ∷ xs) (y ∷ ys) same each = (
    each 0 x y refl refl,
    paired_from xs ys (omega (arith, same)) (λ k. each (suc k)),
  )

  -- one more pair after them
  pub paired_more : (xs : List A) (ys : List B) (x : A) (y : B) → AllPaired R xs ys → R x y
      → AllPaired R (xs ++ (x ∷ [])) (ys ++ (y ∷ []))
  paired_more [] [] x y p r = (r, tt)
  paired_more [] (own ∷ ys) x y p r = absurd p
  paired_more (own ∷ xs) [] x y p r = absurd p
  paired_more (own ∷ xs) (other ∷ ys) x y (p, ps) r = (p, paired_more xs ys x y ps r)

-- what follows from R for each pair holds of all
pub paired_so : {A B C : Type 0} (R : A → B → Type 0) (S : C → B → Type 0) (f : A → C)
    (xs : List A) (ys : List B) → ((x : A) (y : B) → R x y → S (f x) y) → AllPaired R xs ys
    → AllPaired S (map f xs) ys
paired_so R S f [] [] so p = tt
paired_so R S f [] (y ∷ ys) so p = absurd p
paired_so R S f (x ∷ xs) [] so p = absurd p
paired_so R S f (x ∷ xs) (y ∷ ys) so (p, ps) = (so x y p, paired_so R S f xs ys so ps)

-- where each has only one, all have
pub paired_once : {A B : Type 0} (R : A → B → Type 0) (xs : List A) (ys zs : List B)
    → ((x : A) (y z : B) → R x y → R x z → y ≡ z) → AllPaired R xs ys → AllPaired R xs zs → ys ≡ zs
paired_once R [] [] [] once p q = refl
paired_once R [] [] (z ∷ zs) once p q = absurd q
paired_once R [] (y ∷ ys) zs once p q = absurd p
paired_once R (x ∷ xs) [] zs once p q = absurd p
paired_once R (x ∷ xs) (y ∷ ys) [] once p q = absurd q
paired_once R (x ∷ xs) (y ∷ ys) (z ∷ zs) once (p, ps) (q, qs) =
    rw (once x y z p q, paired_once R xs ys zs once ps qs) refl
