-- That something is in a list.
use Rattle.regex_lite_engine.proofs.Common.{◌≡◌, ℕ, suc, ◌⊎◌, List, [], ◌∷◌, ◌++◌, map, slice_get}
use Rattle.regex_lite_engine.proofs.Common.{Some, refl, ap, inl, inr}

abbrev pub In : {A : Type 0} → A → List A → Type 0
In a [] = ⊥
In a (b ∷ list) = (b ≡ a) ⊎ In a list

pub in_left : {A : Type 0} (a : A) (xs ys : List A) → In a xs → In a (xs ++ ys)
in_left a [] ys is = absurd is
in_left a (x ∷ xs) ys (inl e) = inl e
in_left a (x ∷ xs) ys (inr is) = inr (in_left a xs ys is)

pub in_right : {A : Type 0} (a : A) (xs ys : List A) → In a ys → In a (xs ++ ys)
in_right a [] ys is = is
in_right a (x ∷ xs) ys is = inr (in_right a xs ys is)

pub in_map : {A B : Type 0} (f : A → B) (a : A) (xs : List A) → In a xs → In (f a) (map f xs)
in_map f a [] is = absurd is
in_map f a (x ∷ xs) (inl e) = inl (ap f e)
in_map f a (x ∷ xs) (inr is) = inr (in_map f a xs is)

pub in_last : {A : Type 0} (a : A) (xs : List A) → In a (xs ++ a ∷ [])
in_last a xs = in_right a xs (a ∷ []) (inl refl)

-- its number in the list
pub number_of : {A : Type 0} (a : A) (list : List A) → In a list
    → (k : ℕ) × (slice_get list k ≡ Some a)
number_of a [] is = absurd is
number_of a (b ∷ list) (inl e) = (0, ap Some e)
number_of a (b ∷ list) (inr is) = let later = number_of a list is in (suc later.0, later.1)
