-- What stands where in a list that is put together.
use Rattle.regex_lite_syntax.proofs.Common.{◌≡◌, ℕ, zero, suc, ◌+◌, ◌<◌, List, [], ◌∷◌, ◌++◌}
use Rattle.regex_lite_syntax.proofs.Common.{map, length, get_or, slice_get, slice_set, Some}
use Rattle.regex_lite_syntax.proofs.Common.{option_map, sym, refl, ap, ◌∙◌, subst, inl, inr, arith}
use Rattle.regex_lite_syntax.proofs.Common.{length-append, cases_lt, slice_get-get_or, Tree}
use Rattle.std.proofs.Math.ListN.{get_or-append}
use Rattle.std.proofs.Math.Seq.{get_or-append_seam}
use Rattle.std.proofs.lemmas.Option.{get_or_from_slice_get, slice_get-map, slice_get_within}
use Rattle.regex_lite_syntax.proofs.OptionLemmas.{same_some}

pub get_left : {X : Type 0} (xs ys : List X) (k : ℕ) → k < length xs
    → slice_get (xs ++ ys) k ≡ slice_get xs k
get_left [] ys k less = absurd (omega (arith, less))
get_left (x ∷ xs) ys zero less = refl
get_left (x ∷ xs) ys (suc k) less = get_left xs ys k (omega (arith, less))

pub get_right : {X : Type 0} (xs ys : List X) (k : ℕ)
    → slice_get (xs ++ ys) (length xs + k) ≡ slice_get ys k
get_right [] ys k = let same : 0 + k ≡ k = omega arith in ap (slice_get ys) same
get_right (x ∷ xs) ys k =
    let same : suc (length xs) + k ≡ suc (length xs + k) = omega arith in
    ap (slice_get (x ∷ (xs ++ ys))) same ∙ get_right xs ys k

pub get_seam : {X : Type 0} (xs : List X) (y : X) (ys : List X)
    → slice_get (xs ++ (y ∷ ys)) (length xs) ≡ Some y
get_seam [] y ys = refl
get_seam (x ∷ xs) y ys = get_seam xs y ys

pub get_last : {X : Type 0} (xs : List X) (x : X) → slice_get (xs ++ x ∷ []) (length xs) ≡ Some x
get_last xs x = get_seam xs x []

-- what stands in a list stands there when more comes after it
pub still_there : {X : Type 0} (xs ys : List X) (k : ℕ) (x : X) → slice_get xs k ≡ Some x
    → slice_get (xs ++ ys) k ≡ Some x
still_there xs ys k x at = get_left xs ys k (slice_get_within xs k x at) ∙ at

pub there_is : {X : Type 0} (xs : List X) (k : ℕ) → k < length xs
    → (x : X) × (slice_get xs k ≡ Some x)
there_is [] k lt = absurd (omega (arith, lt))
there_is (x ∷ xs) zero lt = (x, refl)
there_is (x ∷ xs) (suc k) lt = there_is xs k (omega (arith, lt))

-- what stands where an item was set, and elsewhere
pub set_here : {X : Type 0} (xs : List X) (i : ℕ) (x : X) → i < length xs
    → slice_get (slice_set xs i x) i ≡ Some x
set_here [] i x below = absurd (omega (arith, below))
set_here (y ∷ xs) zero x below = refl
set_here (y ∷ xs) (suc i) x below = set_here xs i x (omega (arith, below))

pub set_elsewhere : {X : Type 0} (xs : List X) (i j : ℕ) (x : X) → (j ≡ i → ⊥)
    → slice_get (slice_set xs i x) j ≡ slice_get xs j
set_elsewhere [] i j x apart = refl
set_elsewhere (y ∷ xs) zero zero x apart = absurd (apart refl)
set_elsewhere (y ∷ xs) zero (suc j) x apart = refl
set_elsewhere (y ∷ xs) (suc i) zero x apart = refl
set_elsewhere (y ∷ xs) (suc i) (suc j) x apart = set_elsewhere xs i j x (λ e. apart (ap suc e))

-- what an item is mapped to
pub mapped_there : {X Y : Type 0} (f : X → Y) (xs : List X) (k : ℕ) (x : X) → k < length xs
    → x ≡ get_or xs k x → slice_get (map f xs) k ≡ Some (f x)
mapped_there f xs k x less is =
    slice_get-map f xs k
    ∙ ap (option_map f) (slice_get-get_or xs k x less ∙ ap Some (sym is))

-- what holds of several trees, one after another, holds of the next one too
pub reported_more : {A : Type 0} (Reported : Tree → A → Type 0) (trees : List Tree) (list : List A)
    (tree : Tree) (next : A) → slice_get trees (length list) ≡ Some tree → Reported tree next
    → ((number : ℕ) (own : Tree) (found : A) → slice_get trees number ≡ Some own
    → slice_get list number ≡ Some found → Reported own found)
    → (number : ℕ) (own : Tree) (found : A) → slice_get trees number ≡ Some own
    → slice_get (list ++ next ∷ []) number ≡ Some found → Reported own found
reported_more Reported trees list tree next there_next reported so_far number own found there at =
    elim (cases_lt number (length list)) [
      | inl less ↦ so_far number own found there (before less)
      | inr le ↦ last (omega (arith, le, within, length-append list (next ∷ [])))
    ]
  where
    within : number < length (list ++ next ∷ [])
    within = slice_get_within (list ++ next ∷ []) number found at

    here : get_or (list ++ next ∷ []) number found ≡ found
    here = get_or_from_slice_get (list ++ next ∷ []) number found found at

    before : number < length list → slice_get list number ≡ Some found
    before less =
        slice_get-get_or list number found less
        ∙ ap Some (sym (get_or-append list (next ∷ []) found number less) ∙ here)

    last : number ≡ length list → Reported own found
    last is =
        let next_is : next ≡ found
        = sym (get_or-append_seam list next [] found)
        ∙ ap (λ n. get_or (list ++ next ∷ []) n found) (sym is) ∙ here in
        let tree_is : tree ≡ own
        = same_some (sym there_next ∙ ap (slice_get trees) (sym is) ∙ there) in
        subst (Reported own) next_is (subst (λ t. Reported t next) tree_is reported)
