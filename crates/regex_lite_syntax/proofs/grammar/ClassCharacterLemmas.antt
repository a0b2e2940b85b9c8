-- What an escape or a bracketed class stands for are characters, where its text has no others.
use Rattle.regex_lite_syntax.proofs.Common.{ℕ, Bool, true, false, List, [], ◌∷◌, IsTrue, sym, refl}
use Rattle.regex_lite_syntax.proofs.Common.{subst, arith, rules, and_parts, nat_tests, is_character}
use Rattle.regex_lite_syntax.proofs.Common.{AreCharacters, ClassElement, ClassItem, named_class}
use Rattle.regex_lite_syntax.proofs.Common.{escaped_set, range, ClassItems, only_if, class_set}
use Rattle.regex_lite_syntax.proofs.Common.{BracketedClass, one, some_of, look_at, EscapeKind}
use Rattle.regex_lite_syntax.proofs.Common.{gives, word_boundary, hexadecimal, refused, escape_kind}
use Rattle.regex_lite_syntax.proofs.Common.{Hexadecimal, fixed, braced, EscapeFrom, Escape, members}
use Rattle.regex_lite_syntax.proofs.Common.{word, Set, just, union, case_closure, Text, the}
use Rattle.regex_lite_syntax.specs.NamedSets.{digit, space}
use Rattle.regex_lite_syntax.specs.Grammar.Escapes.{Primitive, is_escapable}
use Rattle.regex_lite_syntax.specs.Grammar.Classes.{literal, escaped, character}
use Rattle.regex_lite_syntax.proofs.CharacterSetLemmas.{HoldsCharacters, just_character}
use Rattle.regex_lite_syntax.proofs.CharacterSetLemmas.{span_characters, complement_characters}
use Rattle.regex_lite_syntax.proofs.CharacterSetLemmas.{named_characters, named_or_others}
use Rattle.regex_lite_syntax.proofs.CharacterSetLemmas.{union_characters, closure_characters}
use Rattle.regex_lite_syntax.proofs.machine.ParenLemmas.{gap_reads, item_reads, opening_read}

-- what the primitive stands for are characters
abbrev pub OfCharacters : Primitive → Type 0
OfCharacters (one c) = IsTrue (is_character c)
OfCharacters (some_of s) = HoldsCharacters s
OfCharacters (look_at test) = Unit {0}

-- what an escape gives stands for characters
abbrev KindOfCharacters : EscapeKind → Type 0
KindOfCharacters (gives p) = OfCharacters p
KindOfCharacters _ = Unit {0}

-- one that stands for itself after a backslash is ASCII
escapable_is : (c : ℕ) → IsTrue (is_escapable c) → IsTrue (is_character c)
escapable_is c escapable = grind (arith, nat_tests)

-- and so is each that has a meaning of its own there, and each of the sets
kind_of_characters : (c : ℕ) → KindOfCharacters (escape_kind c)
kind_of_characters c = search (
  rules,
  escapable_is,
  named_characters digit,
  named_characters space,
  named_characters word,
  complement_characters (members digit),
  complement_characters (members space),
  complement_characters (members word),
)

-- a character by its number
hexadecimal_is : {verbose : Bool} {n : ℕ} {t rest : Text} {c : ℕ}
    → Hexadecimal verbose n t rest c → IsTrue (is_character c)
hexadecimal_is (fixed d) = subst (λ c. IsTrue (is_character c)) (sym d.value) d.scalar
hexadecimal_is (braced opened g d) = subst (λ c. IsTrue (is_character c)) (sym d.value) d.scalar

-- the rest of an escape
escape_from_gives : (k : EscapeKind) (verbose : Bool) (t rest : Text) (p : Primitive)
    → KindOfCharacters k → EscapeFrom k verbose t rest p → OfCharacters p
escape_from_gives (gives q) verbose t rest p of d = subst (λ x. OfCharacters x) (sym d.1) of
escape_from_gives word_boundary verbose t rest p of d =
    subst (λ x. OfCharacters x) (sym d.2) tt
escape_from_gives (hexadecimal n) verbose t rest p of d =
    subst (λ x. OfCharacters x) (sym d.2) (hexadecimal_is d.1)
escape_from_gives refused verbose t rest p of d = absurd d

-- whatever the text is, an escape gives a character, a set of them or a look
pub escape_gives : (verbose : Bool) (t rest : Text) (p : Primitive) → Escape verbose t rest p
    → OfCharacters p
escape_gives verbose t rest p d =
    escape_from_gives (escape_kind d.first) verbose d.past_first rest p
    (kind_of_characters d.first) d.goes_on

-- one character or one escape of a class
element_gives : (verbose : Bool) (t rest : Text) (p : Primitive) → AreCharacters t
    → ClassElement verbose t rest p → OfCharacters p
element_gives verbose t rest p all (literal c e plain w is) =
    subst (λ x. OfCharacters x) (sym is) (subst (λ u. AreCharacters u) e all).0
element_gives verbose t rest p all (escaped past e d) = escape_gives verbose past rest p d

-- one item of a class
item_holds : (verbose : Bool) (t rest : Text) (s : Set) → AreCharacters t
    → ClassItem verbose t rest s → HoldsCharacters s
item_holds verbose t rest s all (named_class negated set n is) =
    subst (λ a. HoldsCharacters a) (sym is) (named_or_others negated set)
item_holds verbose t rest s all (character c i p o is) =
    subst (λ a. HoldsCharacters a) (sym is)
    (just_character c (element_gives verbose t rest _ all p))
item_holds verbose t rest s all (escaped_set set i p o is) =
    subst (λ a. HoldsCharacters a) (sym is) (element_gives verbose t rest _ all p)
item_holds verbose t rest s all (range start end past last i p f q order is) =
    subst (λ a. HoldsCharacters a) (sym is) (span_characters start end)

-- and all of them
items_hold : (verbose : Bool) (sets : List Set) (t rest : Text) → AreCharacters t
    → ClassItems verbose sets t rest → HoldsCharacters (union sets)
items_hold verbose [] t rest all d = λ c held. cc held
items_hold verbose (s ∷ sets) t rest all d =
    let later = (gap_reads verbose d.0 d.1 d.3.0).characters ((item_reads d.2).characters all) in
    union_characters s sets (item_holds verbose t d.0 s all d.2)
    (items_hold verbose sets d.1 rest later d.4)

-- a dash or a bracket that counts, or none
counted_holds : (counts : Bool) (c : ℕ) → IsTrue (is_character c)
    → HoldsCharacters (only_if counts (just c))
counted_holds counts c is d held = just_character c is d (and_parts _ _ held).1

-- their union, closed under case and negated or not
class_set_holds : (insensitive negated : Bool) (sets : List Set) → HoldsCharacters (union sets)
    → HoldsCharacters (class_set insensitive negated sets)
class_set_holds true true sets all = complement_characters (case_closure (union sets))
class_set_holds false true sets all = complement_characters (union sets)
class_set_holds true false sets all = closure_characters (union sets) all
class_set_holds false false sets all = all

-- the set of a bracketed class holds characters alone
pub class_holds : {insensitive verbose : Bool} {t rest : Text} {s : Set} → AreCharacters t
    → BracketedClass insensitive verbose t rest s → HoldsCharacters s
class_holds {insensitive} {verbose} {t} {rest} {s} all b =
    let begun = (opening_read b.opening).characters all in
    let dash = only_if b.dash (just (the "-")) in
    let bracket = only_if b.bracket (just (the "]")) in
    let items = items_hold verbose b.sets b.past_opening rest begun b.items in
    let whole = union_characters dash (bracket ∷ b.sets) (counted_holds b.dash (the "-") refl)
    (union_characters bracket b.sets (counted_holds b.bracket (the "]") refl) items) in
    subst (λ a. HoldsCharacters a) (sym b.set_is)
    (class_set_holds insensitive b.negated (dash ∷ bracket ∷ b.sets) whole)
