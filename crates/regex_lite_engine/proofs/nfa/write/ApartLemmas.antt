-- Lists of addresses in which none comes twice.
use Rattle.regex_lite_engine.proofs.Common.{◌≡◌, ℕ, zero, suc, ◌<◌, List, [], ◌∷◌, ◌++◌, length}
use Rattle.regex_lite_engine.proofs.Common.{get_or, sym, refl, ap, subst, arith, Address}
use Rattle.regex_lite_engine.proofs.graph.AddressLemmas.{in_part}

abbrev pub Each : (Address → Type 0) → List Address → Type 0
Each P [] = Unit {0}
Each P (a ∷ list) = P a × Each P list

-- they are not this one
abbrev pub NoneIs : Address → List Address → Type 0
NoneIs a list = Each (λ b. a ≡ b → ⊥) list

-- no two are the same
abbrev pub Apart : List Address → Type 0
Apart [] = Unit {0}
Apart (a ∷ list) = NoneIs a list × Apart list

pub each_weaker : (P Q : Address → Type 0) → ((a : Address) → P a → Q a) → (list : List Address)
    → Each P list → Each Q list
each_weaker P Q f [] r = tt
each_weaker P Q f (a ∷ list) r = (f a r.0, each_weaker P Q f list r.1)

pub each_both : (P : Address → Type 0) (xs ys : List Address) → Each P xs → Each P ys
    → Each P (xs ++ ys)
each_both P [] ys r s = s
each_both P (a ∷ xs) ys r s = (r.0, each_both P xs ys r.1 s)

-- the ones are apart from the others by what no address is at once
pub apart_both : (P Q : Address → Type 0) → ((a : Address) → P a → Q a → ⊥)
    → (xs ys : List Address) → Each P xs → Each Q ys → Apart xs → Apart ys → Apart (xs ++ ys)
apart_both P Q clash [] ys p q r s = s
apart_both P Q clash (a ∷ xs) ys p q r s =
    let differs = λ (b : Address) (y : Q b) (e : a ≡ b). clash a p.0 (subst Q (sym e) y) in
    let others = each_weaker Q (λ b. a ≡ b → ⊥) differs ys q in
    (each_both (λ b. a ≡ b → ⊥) xs ys r.0 others, apart_both P Q clash xs ys p.1 q r.1 s)

pub apart_first : (a : Address) (Q : Address → Type 0) → (Q a → ⊥) → (list : List Address)
    → Each Q list → Apart list → Apart (a ∷ list)
apart_first a Q clash list q r =
    (each_weaker Q (λ b. a ≡ b → ⊥) (λ b y e. clash (subst Q (sym e) y)) list q, r)

pub apart_last : (a : Address) (Q : Address → Type 0) → (Q a → ⊥) → (list : List Address)
    → Each Q list → Apart list → Apart (list ++ a ∷ [])
apart_last a Q clash list q r =
    apart_both Q (λ b. b ≡ a) (λ b y e. clash (subst Q e y)) list (a ∷ []) q (refl, tt) r (tt, tt)

none_is_in_part : (k : ℕ) (a : Address) (list : List Address) → NoneIs a list
    → NoneIs (suc k ∷ a) (in_part k list)
none_is_in_part k a [] r = tt
none_is_in_part k a (b ∷ list) r = ((λ e. r.0 (cc)), none_is_in_part k a list r.1)

pub apart_part : (k : ℕ) (list : List Address) → Apart list → Apart (in_part k list)
apart_part k [] r = tt
apart_part k (a ∷ list) r = (none_is_in_part k a list r.0, apart_part k list r.1)

-- by numbers

each_get : (P : Address → Type 0) (list : List Address) → Each P list → (q : ℕ) → q < length list
    → P (get_or list q [])
each_get P [] r q less = absurd (omega arith)
each_get P (a ∷ list) r zero less = r.0
each_get P (a ∷ list) r (suc q) less = each_get P list r.1 q (omega arith)

pub apart_get : (list : List Address) → Apart list → (p q : ℕ) → p < length list
    → q < length list → get_or list p [] ≡ get_or list q [] → p ≡ q
apart_get [] r p q l m e = absurd (omega arith)
apart_get (a ∷ list) r zero zero l m e = refl
apart_get (a ∷ list) r zero (suc q) l m e =
    absurd (each_get (λ b. a ≡ b → ⊥) list r.0 q (omega arith) e)
apart_get (a ∷ list) r (suc p) zero l m e =
    absurd (each_get (λ b. a ≡ b → ⊥) list r.0 p (omega arith) (sym e))
apart_get (a ∷ list) r (suc p) (suc q) l m e =
    ap suc (apart_get list r.1 p q (omega arith) (omega arith) e)
