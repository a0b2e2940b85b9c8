-- Counted operators are read in one way, and their bounds are in order.
use Rattle.regex_lite_syntax.proofs.Common.{◌≡◌, ℕ, ◌≤◌, Bool, ◌∷◌, Some, None, Option, sym, refl}
use Rattle.regex_lite_syntax.proofs.Common.{ap, ◌∙◌, subst, inl, inr, arith, Number, EndsNumber}
use Rattle.regex_lite_syntax.proofs.Common.{Limit, Counted, exactly, at_least, between, Gap}
use Rattle.regex_lite_syntax.proofs.Common.{WholeGap, IsNotBelow, Text, Begins, the}
use Rattle.regex_lite_syntax.proofs.ListLemmas.{same_head, same_tail}
use Rattle.regex_lite_syntax.proofs.grammar.GapLemmas.{empty_gap, gap_once}
use Rattle.regex_lite_syntax.proofs.grammar.SpacedLemmas.{printed_ends, whole_gap_leads}
use Rattle.regex_lite_syntax.proofs.grammar.NumberLemmas.{ender_ends, ends_side, no_digit_before}
use Rattle.regex_lite_syntax.proofs.grammar.NumberLemmas.{no_number, number_once, side_of}

-- past a comma stands a number, unless the brace that closes stands there
pub limit_is_number : {verbose : Bool} {most : Option ℕ} {t rest : Text} (u : Text)
    → WholeGap verbose t u
    → (Begins (the "}") u → ⊥) → Limit verbose t rest most
    → (n : ℕ) × (most ≡ Some n) × Number verbose t (the "}" ∷ rest) n
limit_is_number {verbose} {most = None} {t} {rest} u whole open_still closes =
    let here = whole_gap_leads verbose t u _ whole closes
    (printed_ends (the "}") rest (omega arith) (omega arith)) in
    absurd (open_still (subst (λ v. Begins (the "}") v) (sym here) refl))
limit_is_number {verbose} {most = Some n} {t} {rest} u whole open_still number = (n, refl, number)

pub limit_before_other : {verbose : Bool} {most : Option ℕ} {t rest : Text} (u past : Text) (c : ℕ)
    → WholeGap verbose t u → u ≡ c ∷ past → (c ≡ the "}" → ⊥) → Limit verbose t rest most
    → (n : ℕ) × (most ≡ Some n) × Number verbose t (the "}" ∷ rest) n
limit_before_other {verbose} {most} {t} {rest} u past c whole here other limit =
    limit_is_number u whole (λ begins. other (subst (λ v. Begins (the "}") v) here begins)) limit

limit_or_none : (verbose : Bool) (t rest rest' : Text) (n : ℕ) → Gap verbose t (the "}" ∷ rest)
    → Number verbose t rest' n → ⊥
limit_or_none verbose t rest rest' n closes number =
    let ends : EndsNumber (the "}" ∷ rest) = inr refl in
    let here = side_of verbose _ _ (empty_gap verbose (the "}" ∷ rest)) in
    no_number (the "}" ∷ rest)
    (side_of verbose t _ closes, ends_side verbose _ (ender_ends (the "}" ∷ rest) ends))
    (no_digit_before verbose (the "}" ∷ rest) (the "}" ∷ rest) here ends) number

pub limit_once : (verbose : Bool) (t r s : Text) (m m' : Option ℕ) → Limit verbose t r m
    → Limit verbose t s m' → (r ≡ s) × (m ≡ m')
limit_once verbose t r s None None a b =
    let closed = gap_once verbose t _ _ a b (printed_ends (the "}") r (omega arith) (omega arith))
    (printed_ends (the "}") s (omega arith) (omega arith)) in
    (same_tail closed, refl)
limit_once verbose t r s None (Some n) a b = absurd (limit_or_none verbose t r _ n a b)
limit_once verbose t r s (Some n) None a b = absurd (limit_or_none verbose t s _ n b a)
limit_once verbose t r s (Some n) (Some n') a b =
    let same = number_once verbose t _ _ n' n b a (inr refl) (inr refl) in
    (same_tail same.0, ap Some same.1)

-- what follows the first number of a counted operator
pub data PastMin (verbose : Bool) (u rest : Text) (least : ℕ) (most : Option ℕ) : Type 0 where
  closed : u ≡ the "}" ∷ rest → most ≡ Some least → PastMin verbose u rest least most
  limited : (past : Text) → u ≡ the "," ∷ past → Limit verbose past rest most
      → IsNotBelow least most → PastMin verbose u rest least most

-- a counted operator from its first number on
pub first_number : {verbose : Bool} {t rest : Text} {least : ℕ} {most : Option ℕ}
    → Counted verbose t rest least most
    → (u : Text) × Number verbose t u least × EndsNumber u × PastMin verbose u rest least most
first_number {verbose} {t} {rest} {least} {most} (exactly p is) =
    (the "}" ∷ rest, p, inr refl, closed refl is)
first_number {verbose} {t} {rest} {least} {most} (at_least past p closes is) = (
  the "," ∷ past,
  p,
  inl refl,
  limited past refl (subst (λ m. Limit verbose past rest m) (sym is) closes)
      (subst (λ m. IsNotBelow least m) (sym is) tt),
)
first_number {verbose} {t} {rest} {least} {most} (between past n p q order is) = (
  the "," ∷ past,
  p,
  inl refl,
  limited past refl (subst (λ m. Limit verbose past rest m) (sym is) q)
      (subst (λ m. IsNotBelow least m) (sym is) order),
)

-- where a number is the only one, a counted operator goes on from it
pub past_min : {verbose : Bool} {t u rest : Text} {n least : ℕ} {most : Option ℕ}
    → ((rest' : Text) (m : ℕ) → Number verbose t rest' m → EndsNumber rest' → (rest' ≡ u) × (m ≡ n))
    → Counted verbose t rest least most → EndsNumber u × PastMin verbose u rest n most × (least ≡ n)
past_min {verbose} {t} {u} {rest} {n} {least} {most} only counted =
    let from = first_number counted in
    let same = only from.0 least from.1 from.2 in (
      subst (λ v. EndsNumber v) same.0 from.2,
      subst (λ m. PastMin verbose u rest m most) same.1
          (subst (λ v. PastMin verbose v rest least most) same.0 from.3),
      same.1,
    )

past_min_once : (verbose : Bool) (u r s : Text) (n : ℕ) (m m' : Option ℕ) → PastMin verbose u r n m
    → PastMin verbose u s n m' → (r ≡ s) × (m ≡ m')
past_min_once verbose u r s n m m' (closed e is) (closed e' is') =
    (same_tail (sym e ∙ e'), is ∙ sym is')
past_min_once verbose u r s n m m' (closed e is) (limited past' e' l' order') =
    let clash = same_head (sym e ∙ e') in absurd (omega (arith, clash))
past_min_once verbose u r s n m m' (limited past e l order) (closed e' is') =
    let clash = same_head (sym e ∙ e') in absurd (omega (arith, clash))
past_min_once verbose u r s n m m' (limited past e l order) (limited past' e' l' order') =
    limit_once verbose past r s m m' l
    (subst (λ v. Limit verbose v s m') (sym (same_tail (sym e ∙ e'))) l')

-- past a comma comes the limit
pub limit_past : {verbose : Bool} {rest : Text} {n : ℕ} {most : Option ℕ} (u past : Text) (c : ℕ)
    → u ≡ c ∷ past → c ≡ the "," → PastMin verbose u rest n most
    → Limit verbose past rest most × IsNotBelow n most
limit_past {verbose} {rest} {n} {most} u past c here is (closed e all) =
    let clash = same_head (sym here ∙ e) in absurd (omega (arith, clash, is))
limit_past {verbose} {rest} {n} {most} u past c here is (limited past' e limit order) =
    (subst (λ v. Limit verbose v rest most) (sym (same_tail (sym here ∙ e))) limit, order)

pub counted_to : {verbose : Bool} {t rest : Text} {least : ℕ} (most : Option ℕ) (u past : Text)
    (c : ℕ) → Number verbose t u least → u ≡ c ∷ past → c ≡ the "," → Limit verbose past rest most
    → IsNotBelow least most → Counted verbose t rest least most
counted_to {verbose} {t} {rest} {least} most u past c p here is limit order =
    go most (subst (λ v. Number verbose t v least) (cc (here, is)) p) limit order
  where
    go : (m : Option ℕ) → Number verbose t (the "," ∷ past) least → Limit verbose past rest m
        → IsNotBelow least m → Counted verbose t rest least m
    go None q closes in_order = at_least past q closes refl
    go (Some n) q number in_order = between past n q number in_order refl

-- a counted operator ends at one place, and has one pair of bounds
pub counted_once : (verbose : Bool) (t r s : Text) (l l' : ℕ) (m m' : Option ℕ)
    → Counted verbose t r l m → Counted verbose t s l' m' → (r ≡ s) × (l ≡ l') × (m ≡ m')
counted_once verbose t r s l l' m m' a b =
    let from = first_number a in
    let past =
    past_min (λ rest n p ends. number_once verbose t from.0 rest l n from.1 p from.2 ends) b in
    let same = past_min_once verbose from.0 r s l m m' from.3 past.1 in
    (same.0, sym past.2, same.1)

-- the bounds are in order
pub counted_in_order : {verbose : Bool} {t rest : Text} {least : ℕ} {most : Option ℕ} {n : ℕ}
    → Counted verbose t rest least most → most ≡ Some n → least ≤ n
counted_in_order {verbose} {t} {rest} {least} {most} {n} counted some = go (first_number counted).3
  where
    go : {u : Text} → PastMin verbose u rest least most → least ≤ n
    go (closed e is) = let same : least ≡ n = cc (is, some) in omega (arith, same)
    go (limited past e l order) = subst (λ m. IsNotBelow least m) some order
