-- What the parser's functions return, in terms of the grammar.
use Rattle.std.specs.Prelude.{ℕ, ◌≤◌, Bool, Option, Some, None, if◌then◌else◌}
use Rattle.regex_lite_syntax.specs.declared.parse.escape.Primitive.{Primitive as Read}
use Rattle.regex_lite_syntax.specs.declared.parse.escape.Primitive.TheVariants as read
use Rattle.regex_lite_syntax.specs.declared.parse.escape.Meaning.{Meaning}
use Rattle.regex_lite_syntax.specs.declared.parse.escape.Meaning.TheVariants as meaning
use Rattle.regex_lite_syntax.specs.declared.class.named.NamedSet.{NamedSet}
use Rattle.regex_lite_syntax.specs.Sets.{Set, complement}
use Rattle.regex_lite_syntax.specs.NamedSets.{members}
use Rattle.regex_lite_syntax.specs.Parser.SetNames.{name_of}
use Rattle.regex_lite_syntax.specs.Grammar.Escapes.{Primitive, one, some_of, look_at, EscapeKind}
use Rattle.regex_lite_syntax.specs.Grammar.Escapes.{gives, word_boundary, hexadecimal, refused}

-- the set with a name, or its complement
abbrev pub named_or_not : NamedSet → (negated : Bool) → Set
named_or_not set negated =
    if negated then complement (members (name_of set)) else members (name_of set)

abbrev pub primitive_of : Read → Primitive
primitive_of (read.Char c) = one c
primitive_of (read.Set set negated) = some_of (named_or_not set negated)
primitive_of (read.Look look) = look_at look

-- the kind of an escape, by the meaning of the character after the backslash
abbrev pub escape_kind_of : Meaning → EscapeKind
escape_kind_of (meaning.Gives primitive) = gives (primitive_of primitive)
escape_kind_of meaning.WordBoundary = word_boundary
escape_kind_of (meaning.Hexadecimal digits) = hexadecimal digits
escape_kind_of meaning.Refused = refused

-- a character from this one on, or no character
abbrev pub ReachesTo : (least : ℕ) → Primitive → Type 0
ReachesTo least (one c) = least ≤ c
ReachesTo least _ = Unit {0}

-- no limit, or one that is not below this number
abbrev pub IsNotBelow : (least : ℕ) → (most : Option ℕ) → Type 0
IsNotBelow least None = Unit {0}
IsNotBelow least (Some n) = least ≤ n
