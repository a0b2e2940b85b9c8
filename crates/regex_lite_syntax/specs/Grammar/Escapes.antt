-- Escapes: a backslash and what follows it.
use Rattle.std.specs.Prelude.{◌≡◌, ℕ, ◌<◌, Bool, not, ◌&&◌, ◌||◌, ◌==◌, nat_lt, [], ◌∷◌}
use Rattle.std.specs.Prelude.{length, Option, Some, None, IsTrue, codes, if◌then◌else◌}
use Prim.Native.String.{String}
use Rattle.regex_lite_syntax.specs.declared.hir.look.Look.{Look}
use Rattle.regex_lite_syntax.specs.declared.hir.look.Look.TheVariants as looks
use Rattle.regex_lite_syntax.specs.Text.{Text, Begins, is_text, the}
use Rattle.regex_lite_syntax.specs.Characters.{is_character, is_letter, is_digit}
use Rattle.regex_lite_syntax.specs.Characters.{is_hex_digit, number_of}
use Rattle.regex_lite_syntax.specs.Grammar.Gaps.{Gap, Spaced}
use Rattle.regex_lite_syntax.specs.Sets.{Set, complement}
use Rattle.regex_lite_syntax.specs.NamedSets.{members, digit, space, word}

-- what an item or a part of a bracketed class stands for
pub data Primitive : Type 0 where
  one : ℕ → Primitive
  some_of : Set → Primitive
  look_at : Look → Primitive

-- the kind of an escape, by the character after the backslash
pub data EscapeKind : Type 0 where
  -- it stands for this, and no more is read
  gives : Primitive → EscapeKind
  -- `\b`, perhaps with a name in braces
  word_boundary : EscapeKind
  -- this many hexadecimal digits, or any number of them in braces
  hexadecimal : (digits : ℕ) → EscapeKind
  refused : EscapeKind

-- an ASCII character that stands for itself after a backslash
abbrev pub is_escapable : ℕ → Bool
is_escapable c = nat_lt c 0x80 && not (is_digit c || is_letter c || c == the "<" || c == the ">")

abbrev pub escape_kind : ℕ → EscapeKind
escape_kind c =
    if c == the "a" then gives (one (the "\u{7}"))
    else if c == the "f" then gives (one (the "\u{c}"))
    else if c == the "t" then gives (one (the "\t"))
    else if c == the "n" then gives (one (the "\n"))
    else if c == the "r" then gives (one (the "\r"))
    else if c == the "v" then gives (one (the "\u{b}"))
    else if c == the "A" then gives (look_at looks.Start)
    else if c == the "z" then gives (look_at looks.End)
    else if c == the "B" then gives (look_at looks.WordNegate)
    else if c == the "<" then gives (look_at looks.WordStart)
    else if c == the ">" then gives (look_at looks.WordEnd)
    else if c == the "b" then word_boundary
    else if c == the "d" then gives (some_of (members digit))
    else if c == the "s" then gives (some_of (members space))
    else if c == the "w" then gives (some_of (members word))
    else if c == the "D" then gives (some_of (complement (members digit)))
    else if c == the "S" then gives (some_of (complement (members space)))
    else if c == the "W" then gives (some_of (complement (members word)))
    else if c == the "x" then hexadecimal 2
    else if c == the "u" then hexadecimal 4
    else if c == the "U" then hexadecimal 8
    else if is_escapable c then gives (one c)
    else refused

-- this many hexadecimal digits, and the character of their value
pub record FixedDigits (verbose : Bool) (n : ℕ) (t rest : Text) (c : ℕ) : Type 0 where
  pub digits : Text
  pub written : Spaced verbose is_hex_digit digits t rest
  pub count : length digits ≡ n
  pub scalar : IsTrue (is_character (number_of 16 digits))
  pub value : c ≡ number_of 16 digits

-- one or more hexadecimal digits and the closing brace, after the opening one
pub record BracedDigits (verbose : Bool) (t rest : Text) (c : ℕ) : Type 0 where
  pub digits : Text
  pub last : Text
  pub written : Spaced verbose is_hex_digit digits t last
  pub closes : Gap verbose last (the "}" ∷ rest)
  pub some : 0 < length digits
  pub scalar : IsTrue (is_character (number_of 16 digits))
  pub value : c ≡ number_of 16 digits

-- the character by its number, after the letter that asks for this many digits
pub data Hexadecimal (verbose : Bool) (n : ℕ) (t rest : Text) (c : ℕ) : Type 0 where
  fixed : FixedDigits verbose n t rest c → Hexadecimal verbose n t rest c
  braced : (opened : Text) → Gap verbose t (the "{" ∷ opened)
      → BracedDigits verbose opened rest c → Hexadecimal verbose n t rest c

-- a character of the name in `\b{..}`
abbrev pub is_boundary_character : ℕ → Bool
is_boundary_character c = is_letter c || c == the "-"

abbrev pub boundary_named : Text → Option Look
boundary_named name =
    if is "start" then Some looks.WordStart
    else if is "end" then Some looks.WordEnd
    else if is "start-half" then Some looks.WordStartHalf
    else if is "end-half" then Some looks.WordEndHalf
    else None
  where
    is : String → Bool
    is s = is_text name (codes s)

-- a name and the closing brace, after the opening one
pub record BoundaryName (verbose : Bool) (t rest : Text) (look : Look) : Type 0 where
  pub name : Text
  pub last : Text
  pub written : Spaced verbose is_boundary_character name t last
  pub closes : Gap verbose last (the "}" ∷ rest)
  pub named : boundary_named name ≡ Some look

-- after a brace: no name begins here, since the character after the gap isn't one of a name
pub record BeginsCount (verbose : Bool) (t : Text) : Type 0 where
  pub goes_on : Gap verbose t [] → ⊥
  pub no_name : (c : ℕ) (rest : Text) → Gap verbose t (c ∷ rest)
      → IsTrue (is_boundary_character c) → ⊥

-- after `\b`: a name in braces, or nothing; then a brace may follow that begins a counted operator
pub data WordBoundary (verbose : Bool) (t rest : Text) (look : Look) : Type 0 where
  alone : (Begins (the "{") t → ⊥) → t ≡ rest → look ≡ looks.Word
      → WordBoundary verbose t rest look
  before_count : (opened : Text) → t ≡ the "{" ∷ opened → BeginsCount verbose opened → t ≡ rest
      → look ≡ looks.Word → WordBoundary verbose t rest look
  named : (opened : Text) → t ≡ the "{" ∷ opened → BoundaryName verbose opened rest look
      → WordBoundary verbose t rest look

-- the rest of an escape, after the character after the backslash
abbrev pub EscapeFrom : EscapeKind → (verbose : Bool) → Text → Text → Primitive → Type 0
EscapeFrom (gives q) verbose t rest p = (t ≡ rest) × (p ≡ q)
EscapeFrom word_boundary verbose t rest p =
    (look : Look) × WordBoundary verbose t rest look × (p ≡ look_at look)
EscapeFrom (hexadecimal n) verbose t rest p = (c : ℕ) × Hexadecimal verbose n t rest c × (p ≡ one c)
EscapeFrom refused verbose t rest p = ⊥

-- an escape, after its backslash, and what it stands for
pub record Escape (verbose : Bool) (t rest : Text) (p : Primitive) : Type 0 where
  pub first : ℕ
  pub past_first : Text
  pub begins : t ≡ first ∷ past_first
  pub goes_on : EscapeFrom (escape_kind first) verbose past_first rest p
