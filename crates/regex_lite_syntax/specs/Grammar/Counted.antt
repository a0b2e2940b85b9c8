-- Counted operators, from after the brace that opens them.
use Rattle.std.specs.Prelude.{◌≡◌, ◌⊎◌, ℕ, ◌^◌, ◌<◌, ◌≤◌, Bool, true, false}
use Rattle.std.specs.Prelude.{not, [], ◌∷◌, length, Option, Some, None, IsTrue}
use Rattle.regex_lite_syntax.specs.Text.{Text, Begins, the}
use Rattle.regex_lite_syntax.specs.Characters.{is_white_space, is_digit, number_of}
use Rattle.regex_lite_syntax.specs.Grammar.Gaps.{Spacing, Gap, EndsGap, Spaced}

-- white space, perhaps none
abbrev pub WhiteSpace : Text → Text → Type 0
WhiteSpace [] rest = rest ≡ []
WhiteSpace (c ∷ t) rest = (rest ≡ c ∷ t) ⊎ (IsTrue (is_white_space c) × WhiteSpace t rest)

-- what may come on either side of a number: white space, and in verbose mode comments too
abbrev pub Side : (verbose : Bool) → Text → Text → Type 0
Side true t rest = Spacing t rest
Side false t rest = WhiteSpace t rest

-- no such side could continue here
abbrev pub EndsSide : (verbose : Bool) → Text → Type 0
EndsSide true t = EndsGap true t
EndsSide false [] = Unit {0}
EndsSide false (c ∷ t) = IsTrue (not (is_white_space c))

-- a side that is as long as possible
abbrev pub WholeSide : (verbose : Bool) → Text → Text → Type 0
WholeSide verbose t rest = Side verbose t rest × EndsSide verbose rest

-- a decimal number below 2^32 with its sides
pub record Number (verbose : Bool) (t rest : Text) (n : ℕ) : Type 0 where
  pub first : Text
  pub last : Text
  pub digits : Text
  pub before : Side verbose t first
  pub written : Spaced verbose is_digit digits first last
  pub after : Side verbose last rest
  pub some : 0 < length digits
  pub value : n ≡ number_of 10 digits
  pub in_range : n < 2 ^ 32

-- what follows a number of a counted operator
abbrev pub EndsNumber : Text → Type 0
EndsNumber t = Begins (the ",") t ⊎ Begins (the "}") t

-- what comes after the comma, up to the closing brace: a number, or none
abbrev pub Limit : (verbose : Bool) → Text → Text → (most : Option ℕ) → Type 0
Limit verbose t rest None = Gap verbose t (the "}" ∷ rest)
Limit verbose t rest (Some n) = Number verbose t (the "}" ∷ rest) n

-- the bounds of a counted operator and its closing brace
pub data Counted (verbose : Bool) (t rest : Text) (least : ℕ) (most : Option ℕ) : Type 0 where
  exactly : Number verbose t (the "}" ∷ rest) least → most ≡ Some least
      → Counted verbose t rest least most
  at_least : (past_comma : Text) → Number verbose t (the "," ∷ past_comma) least
      → Gap verbose past_comma (the "}" ∷ rest) → most ≡ None → Counted verbose t rest least most
  between : (past_comma : Text) (n : ℕ) → Number verbose t (the "," ∷ past_comma) least
      → Number verbose past_comma (the "}" ∷ rest) n → least ≤ n → most ≡ Some n
      → Counted verbose t rest least most
