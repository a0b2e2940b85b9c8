-- Equal lists have equal heads, tails and last items.
use Rattle.regex_lite_syntax.proofs.Common.{◌≡◌, List, [], ◌∷◌, ◌++◌, sym, refl}

pub same_head : {A : Type 0} {x y : A} {xs ys : List A} → x ∷ xs ≡ y ∷ ys → x ≡ y
same_head e = cc

pub same_tail : {A : Type 0} {x y : A} {xs ys : List A} → x ∷ xs ≡ y ∷ ys → xs ≡ ys
same_tail e = cc

-- a list with a last item is not empty
pub no_last : {A : Type 0} (xs : List A) (x : A) → [] ≡ xs ++ x ∷ [] → ⊥
no_last [] x e = cc
no_last (y ∷ ys) x e = cc

pub snoc_same : {A : Type 0} (xs ys : List A) (x y : A) → xs ++ x ∷ [] ≡ ys ++ y ∷ []
    → (xs ≡ ys) × (x ≡ y)
snoc_same [] [] x y e = (refl, same_head e)
snoc_same [] (b ∷ ys) x y e = absurd (no_last ys y (same_tail e))
snoc_same (a ∷ xs) [] x y e = absurd (no_last xs x (sym (same_tail e)))
snoc_same (a ∷ xs) (b ∷ ys) x y e =
    let tails = snoc_same xs ys x y (same_tail e) in
    (cc (same_head e, tails.0), tails.1)
