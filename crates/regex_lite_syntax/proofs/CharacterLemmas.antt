-- The characters of a text are Unicode scalar values.
use Rattle.regex_lite_syntax.proofs.Common.{◌≡◌, ℕ, zero, suc, true, List, [], ◌∷◌, ◌++◌, take}
use Rattle.regex_lite_syntax.proofs.Common.{drop, IsTrue, chars, subst, arith, and_parts, nat_tests}
use Rattle.regex_lite_syntax.proofs.Common.{chars_from_encodes, is_character, AreCharacters, Text}
use Rattle.std.specs.Char.{IsScalar}
use Rattle.std.specs.Str.{IsUtf8, all_scalars}
use Rattle.std.proofs.Common.{replicate}

scalar_is : (c : ℕ) → IsScalar c → IsTrue (is_character c)
scalar_is c is = grind (arith, nat_tests)

scalars_are : (cs : List ℕ) → all_scalars cs ≡ true → AreCharacters cs
scalars_are [] e = tt
scalars_are (c ∷ cs) e =
    let split = and_parts _ _ e in
    (scalar_is c split.0, scalars_are cs split.1)

pub chars_are : (bs : List ℕ) → IsUtf8 bs → AreCharacters (chars bs)
chars_are bs utf8 =
    subst (λ t. AreCharacters t) (chars_from_encodes utf8.0 bs utf8 utf8.1.1)
    (scalars_are utf8.0 utf8.1.0)

-- the first of them are characters
pub first_are : (n : ℕ) (t : Text) → AreCharacters t → AreCharacters (take n t)
first_are zero t are = tt
first_are (suc n) [] are = tt
first_are (suc n) (c ∷ t) are = (are.0, first_are n t are.1)

-- the last of them are
pub last_are : (t u : Text) → AreCharacters (t ++ u) → AreCharacters u
last_are [] u are = are
last_are (c ∷ t) u are = last_are t u are.1

-- and so are all past them
pub left_are : (n : ℕ) (t : Text) → AreCharacters t → AreCharacters (drop n t)
left_are zero t are = are
left_are (suc n) [] are = tt
left_are (suc n) (c ∷ t) are = left_are n t are.1

-- of two texts of characters the one and then the other are characters
pub joined_are : (t u : Text) → AreCharacters t → AreCharacters u → AreCharacters (t ++ u)
joined_are [] u are more = more
joined_are (c ∷ t) u are more = (are.0, joined_are t u are.1 more)

-- and so is one character, as often as it stands
pub repeated_are : (n c : ℕ) → IsTrue (is_character c) → AreCharacters (replicate n c)
repeated_are zero c is = tt
repeated_are (suc n) c is = (is, repeated_are n c is)
