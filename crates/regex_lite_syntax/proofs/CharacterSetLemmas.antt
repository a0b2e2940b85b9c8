-- Sets that hold characters alone.
use Rattle.regex_lite_syntax.proofs.Common.{ℕ, Bool, true, false, List, ◌∷◌, if◌then◌else◌, IsTrue}
use Rattle.regex_lite_syntax.proofs.Common.{sym, subst, inl, inr, arith, and_parts, eqb-true}
use Rattle.regex_lite_syntax.proofs.Common.{or_cases, nat_tests, is_character, is_letter, SetName}
use Rattle.regex_lite_syntax.proofs.Common.{members, Set, just, span, union, complement}
use Rattle.regex_lite_syntax.proofs.Common.{case_closure}
use Rattle.regex_lite_syntax.specs.NamedSets.{alnum}

-- the set holds characters alone
abbrev pub HoldsCharacters : Set → Type 0
HoldsCharacters s = (c : ℕ) → IsTrue (s c) → IsTrue (is_character c)

-- so does the set of one character
pub just_character : (c : ℕ) → IsTrue (is_character c) → HoldsCharacters (just c)
just_character c is d held =
    subst (λ x. IsTrue (is_character x)) (sym (eqb-true d c held)) is

-- that of a range
pub span_characters : (start end : ℕ) → HoldsCharacters (span start end)
span_characters start end c held = (and_parts _ _ held).0

-- and what another set lacks
pub complement_characters : (s : Set) → HoldsCharacters (complement s)
complement_characters s c held = (and_parts _ _ held).0

-- each set with a name holds ASCII characters
pub named_characters : (name : SetName) → HoldsCharacters (members name)
named_characters alnum c held = grind (arith, nat_tests)
named_characters _ c held = grind (arith, nat_tests)

-- or all others
pub named_or_others : (negated : Bool) (name : SetName)
    → HoldsCharacters (if negated then complement (members name) else members name)
named_or_others true name = complement_characters (members name)
named_or_others false name = named_characters name

-- the union of sets that do
pub union_characters : (s : Set) (sets : List Set) → HoldsCharacters s
    → HoldsCharacters (union sets) → HoldsCharacters (union (s ∷ sets))
union_characters s sets first later c held =
    elim (or_cases (s c) (union sets c) held) [
      | inl h ↦ first c h
      | inr h ↦ later c h
    ]

-- an ASCII letter is a character
letter_character : (c : ℕ) → IsTrue (is_letter c) → IsTrue (is_character c)
letter_character c letter = grind (arith, nat_tests)

-- so the other cases of the letters are characters too
pub closure_characters : (s : Set) → HoldsCharacters s → HoldsCharacters (case_closure s)
closure_characters s all c held =
    elim (or_cases (s c) _ held) [
      | inl h ↦ all c h
      | inr h ↦ letter_character c (and_parts _ _ h).0
    ]
