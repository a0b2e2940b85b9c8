-- What is left of a text at an index.
use Rattle.regex_lite_syntax.proofs.Common.{◌≡◌, ℕ, ◌+◌, ◌<◌, Bool, ◌≢◌, [], ◌∷◌, length, get_or}
use Rattle.regex_lite_syntax.proofs.Common.{drop, sym, ap, ◌∙◌, subst, add-one, arith, drop_all}
use Rattle.regex_lite_syntax.proofs.Common.{Gap, WholeGap, Text, Begins}
use Rattle.std.proofs.Math.Seq.{drop-cons}
use Rattle.std.proofs.lemmas.List.{get_or_read}

-- the character at the index stands first in what is left
pub drop_at : (xs : Text) (i : ℕ) → i < length xs → drop i xs ≡ get_or xs i 0 ∷ drop (i + 1) xs
drop_at xs i h = rw add-one (drop-cons xs i 0 h)

pub drop_as : (xs : Text) (i x : ℕ) → i < length xs → x ≡ get_or xs i 0
    → drop i xs ≡ x ∷ drop (i + 1) xs
drop_as xs i x h e = drop_at xs i h ∙ ap (λ y. y ∷ drop (i + 1) xs) (sym e)

pub drop_char : (xs : Text) (i x : ℕ) → i < length xs → x ≡ get_or xs i x
    → drop i xs ≡ x ∷ drop (i + 1) xs
drop_char xs i x h e = drop_as xs i x h (get_or_read xs i x h e 0)

-- the text at the index begins with this character
pub drop_begins : (xs : Text) (i c : ℕ) → i < length xs → Begins c (drop i xs)
    → drop i xs ≡ c ∷ drop (i + 1) xs
drop_begins xs i c h begins =
    let e = drop_at xs i h in
    e ∙ ap (λ y. y ∷ drop (i + 1) xs) (subst (λ t. Begins c t) e begins)

pub left_at_end : (xs : Text) (i : ℕ) → i ≡ length xs → drop i xs ≡ []
left_at_end xs i e = drop_all i xs (omega (arith, e))

-- a gap up to the end
pub gap_at_end : (verbose : Bool) (t xs : Text) (i : ℕ) → i ≡ length xs
    → WholeGap verbose t (drop i xs) → Gap verbose t []
gap_at_end verbose t xs i e whole = subst (λ u. Gap verbose t u) (left_at_end xs i e) whole.0

-- and something is left
pub some_at : (xs : Text) (i : ℕ) → i < length xs → drop i xs ≢ []
some_at xs i h e = let here = drop_at xs i h in cc (here, e)
