-- An escape is read in one way.
use Rattle.regex_lite_syntax.proofs.Common.{◌≡◌, ℕ, ◌<◌, Bool, false, [], ◌∷◌, length, IsTrue, Some}
use Rattle.regex_lite_syntax.proofs.Common.{sym, refl, ap, ◌∙◌, subst, arith, rules, both_ways}
use Rattle.regex_lite_syntax.proofs.Common.{is_hex_digit, number_of, one, look_at, EscapeKind}
use Rattle.regex_lite_syntax.proofs.Common.{gives, word_boundary, hexadecimal, refused, escape_kind}
use Rattle.regex_lite_syntax.proofs.Common.{FixedDigits, BracedDigits, Hexadecimal, fixed, braced}
use Rattle.regex_lite_syntax.proofs.Common.{is_boundary_character, boundary_named, BoundaryName}
use Rattle.regex_lite_syntax.proofs.Common.{WordBoundary, alone, before_count, EscapeFrom, Escape}
use Rattle.regex_lite_syntax.proofs.Common.{Gap, WholeGap, Spaced, Lacks, Text, Begins, the, Look}
use Rattle.regex_lite_syntax.specs.Grammar.Escapes.{Primitive, BeginsCount, named}
use Rattle.regex_lite_syntax.proofs.ListLemmas.{same_head, same_tail}
use Rattle.regex_lite_syntax.proofs.grammar.GapLemmas.{gap_once}
use Rattle.regex_lite_syntax.proofs.grammar.SpacedLemmas.{printed_ends, hex_digits_end}
use Rattle.regex_lite_syntax.proofs.grammar.SpacedLemmas.{boundary_characters_end}
use Rattle.regex_lite_syntax.proofs.grammar.SpacedLemmas.{not_spaced, whole_gap_leads}
use Rattle.regex_lite_syntax.proofs.grammar.SpacedLemmas.{spaced_once, spaced_to_brace_once}

-- where a digit stands past a gap, no brace opens past one
digit_or_brace : (verbose : Bool) (digits t rest opened : Text) → 0 < length digits
    → Spaced verbose is_hex_digit digits t rest → Gap verbose t (the "{" ∷ opened) → ⊥
digit_or_brace verbose [] t rest opened some written opens = omega (arith, some)
digit_or_brace verbose (d ∷ digits) t rest opened some written opens =
    let same = gap_once verbose t _ _ written.1 opens (hex_digits_end d written.0 written.2)
    (printed_ends (the "{") opened (omega arith) (omega arith)) in
    both_ways (is_hex_digit d) (ap is_hex_digit (same_head same)) written.2

fixed_or_braced : (verbose : Bool) (n : ℕ) (t rest opened : Text) (c : ℕ) → 0 < n
    → FixedDigits verbose n t rest c → Gap verbose t (the "{" ∷ opened) → ⊥
fixed_or_braced verbose n t rest opened c some f opens =
    digit_or_brace verbose f.digits t rest opened (omega (arith, some, f.count)) f.written opens

pub hexadecimal_once : (verbose : Bool) (n : ℕ) (t r s : Text) (c d : ℕ) → 0 < n
    → Hexadecimal verbose n t r c → Hexadecimal verbose n t s d → (r ≡ s) × (c ≡ d)
hexadecimal_once verbose n t r s c d some (fixed a) (fixed b) =
    let same =
    spaced_once verbose is_hex_digit a.digits b.digits t r s hex_digits_end a.written b.written
    (a.count ∙ sym b.count) in
    (same.1, a.value ∙ ap (number_of 16) same.0 ∙ sym b.value)
hexadecimal_once verbose n t r s c d some (fixed a) (braced opened g b) =
    absurd (fixed_or_braced verbose n t r opened c some a g)
hexadecimal_once verbose n t r s c d some (braced opened g a) (fixed b) =
    absurd (fixed_or_braced verbose n t s opened d some b g)
hexadecimal_once verbose n t r s c d some (braced opened g a) (braced opened' h b) =
    let start = same_tail
    (gap_once verbose t _ _ g h (printed_ends (the "{") opened (omega arith) (omega arith))
    (printed_ends (the "{") opened' (omega arith) (omega arith))) in
    let same = spaced_to_brace_once verbose is_hex_digit a.digits b.digits opened a.last b.last r s
    hex_digits_end refl a.written a.closes
    (subst (λ u. Spaced verbose is_hex_digit b.digits u b.last) (sym start) b.written) b.closes in
    (same.1, a.value ∙ ap (number_of 16) same.0 ∙ sym b.value)

-- where a brace opens past the whole gap, the number stands in it
pub from_braces : (verbose : Bool) (n : ℕ) (t u opened rest : Text) (c d : ℕ) → WholeGap verbose t u
    → u ≡ d ∷ opened → d ≡ the "{" → BracedDigits verbose opened rest c
    → Hexadecimal verbose n t rest c
from_braces verbose n t u opened rest c d whole here opens b =
    braced opened
    (subst (λ e. Gap verbose t (e ∷ opened)) opens (subst (λ v. Gap verbose t v) here whole.0)) b

pub in_braces : (verbose : Bool) (n : ℕ) (t u opened rest : Text) (c d : ℕ) → 0 < n
    → WholeGap verbose t u → u ≡ d ∷ opened
    → d ≡ the "{" → Hexadecimal verbose n t rest c → BracedDigits verbose opened rest c
in_braces verbose n t u opened rest c d some whole here opens (fixed f) =
    absurd (fixed_or_braced verbose n t rest opened c some f
    (subst (λ e. Gap verbose t (e ∷ opened)) opens (subst (λ v. Gap verbose t v) here whole.0)))
in_braces verbose n t u opened rest c d some whole here opens (braced opened' g b) =
    let same = whole_gap_leads verbose t u _ whole g
    (printed_ends (the "{") opened' (omega arith) (omega arith)) in
    subst (λ v. BracedDigits verbose v rest c) (same_tail (sym same ∙ here)) b

-- where none opens, the number has this many digits
pub without_braces : (verbose : Bool) (n : ℕ) (t u rest : Text) (c : ℕ) → WholeGap verbose t u
    → (Begins (the "{") u → ⊥) → Hexadecimal verbose n t rest c → FixedDigits verbose n t rest c
without_braces verbose n t u rest c whole closed (fixed f) = f
without_braces verbose n t u rest c whole closed (braced opened g b) =
    let same = whole_gap_leads verbose t u _ whole g
    (printed_ends (the "{") opened (omega arith) (omega arith)) in
    absurd (closed (subst (λ v. Begins (the "{") v) (sym same) refl))

-- where a name begins, no counted operator does
name_or_count : (verbose : Bool) (name opened last : Text) (look : Look)
    → boundary_named name ≡ Some look
    → Spaced verbose is_boundary_character name opened last → BeginsCount verbose opened → ⊥
name_or_count verbose [] opened last look e written count = cc
name_or_count verbose (c ∷ name) opened last look e written count =
    count.no_name c written.0 written.1 written.2

named_or_count : (verbose : Bool) (t opened opened' rest : Text) (look : Look)
    → t ≡ the "{" ∷ opened
    → t ≡ the "{" ∷ opened' → BoundaryName verbose opened rest look
    → BeginsCount verbose opened' → ⊥
named_or_count verbose t opened opened' rest look e e' b count =
    name_or_count verbose b.name opened b.last look b.named b.written
    (subst (λ u. BeginsCount verbose u) (same_tail (sym e' ∙ e)) count)

brace_begins : (t opened : Text) → t ≡ the "{" ∷ opened → Begins (the "{") t
brace_begins t opened e = subst (λ u. Begins (the "{") u) (sym e) refl

name_once : (verbose : Bool) (t r s : Text) (look look' : Look) → BoundaryName verbose t r look
    → BoundaryName verbose t s look' → (r ≡ s) × (look ≡ look')
name_once verbose t r s look look' a b =
    let same = spaced_to_brace_once verbose is_boundary_character a.name b.name t a.last b.last r s
    boundary_characters_end refl a.written a.closes b.written b.closes in
    (same.1, cc (sym a.named ∙ ap boundary_named same.0 ∙ b.named))

-- a brace opens, and past the whole gap stands no character
pub no_boundary : (verbose : Bool) (t opened u rest : Text) (look : Look) → t ≡ the "{" ∷ opened
    → WholeGap verbose opened u → u ≡ [] → WordBoundary verbose t rest look → ⊥
no_boundary verbose t opened u rest look opens whole end (alone n e l) =
    n (brace_begins t opened opens)
no_boundary verbose t opened u rest look opens whole end (before_count opened' b count e l) =
    let same = same_tail (sym opens ∙ b) in
    count.goes_on
    (subst (λ v. Gap verbose v []) same (subst (λ v. Gap verbose opened v) end whole.0))
no_boundary verbose t opened u rest look opens whole end (named opened' b n) =
    go n.name n.named n.written
  where
    go : (name : Text) → boundary_named name ≡ Some look
        → Spaced verbose is_boundary_character name opened' n.last → ⊥
    go [] is written = cc
    go (c ∷ name) is written = not_spaced verbose is_boundary_character c name opened u n.last
        boundary_characters_end whole (subst (λ v. Lacks is_boundary_character v) (sym end) tt)
        (subst (λ v. Spaced verbose is_boundary_character (c ∷ name) v n.last)
        (same_tail (sym b ∙ opens)) written)

-- a brace opens, and past the whole gap stands a character of a name
pub name_in_braces : (verbose : Bool) (t opened u past rest : Text) (c : ℕ) (look : Look)
    → t ≡ the "{" ∷ opened
    → WholeGap verbose opened u → u ≡ c ∷ past → IsTrue (is_boundary_character c)
    → WordBoundary verbose t rest look → BoundaryName verbose opened rest look
name_in_braces verbose t opened u past rest c look opens whole here is (alone n e l) =
    absurd (n (brace_begins t opened opens))
name_in_braces verbose t opened u past rest c look opens whole here is
    (before_count opened' b count e l) =
    let same = same_tail (sym opens ∙ b) in
    absurd (count.no_name c past
    (subst (λ v. Gap verbose v (c ∷ past)) same (subst (λ v. Gap verbose opened v) here whole.0))
    is)
name_in_braces verbose t opened u past rest c look opens whole here is (named opened' b n) =
    subst (λ v. BoundaryName verbose v rest look) (same_tail (sym b ∙ opens)) n

-- past the whole gap stands a character that begins no name
pub begins_count : (verbose : Bool) (opened u past : Text) (c : ℕ) → WholeGap verbose opened u
    → u ≡ c ∷ past → is_boundary_character c ≡ false → BeginsCount verbose opened
begins_count verbose opened u past c whole here other = record {
  goes_on = λ gap. let end = whole_gap_leads verbose opened u [] whole gap tt in cc (end, here);
  no_name = λ d rest gap is.
      let same =
      sym (whole_gap_leads verbose opened u _ whole gap (boundary_characters_end d rest is))
      ∙ here in
      both_ways (is_boundary_character d) (ap is_boundary_character (same_head same) ∙ other) is;
}

pub boundary_once : (verbose : Bool) (t r s : Text) (look look' : Look)
    → WordBoundary verbose t r look → WordBoundary verbose t s look' → (r ≡ s) × (look ≡ look')
boundary_once verbose t r s look look' (alone n e l) (alone n' e' l') = (sym e ∙ e', l ∙ sym l')
boundary_once verbose t r s look look' (alone n e l) (before_count o b c e' l') =
    absurd (n (brace_begins t o b))
boundary_once verbose t r s look look' (alone n e l) (named o b a) = absurd (n (brace_begins t o b))
boundary_once verbose t r s look look' (before_count o b c e l) (alone n e' l') =
    absurd (n (brace_begins t o b))
boundary_once verbose t r s look look' (before_count o b c e l) (before_count o' b' c' e' l') =
    (sym e ∙ e', l ∙ sym l')
boundary_once verbose t r s look look' (before_count o b c e l) (named o' b' a) =
    absurd (named_or_count verbose t o' o s look' b' b a c)
boundary_once verbose t r s look look' (named o b a) (alone n e l) = absurd (n (brace_begins t o b))
boundary_once verbose t r s look look' (named o b a) (before_count o' b' c e l) =
    absurd (named_or_count verbose t o o' r look b b' a c)
boundary_once verbose t r s look look' (named o b a) (named o' b' a') =
    name_once verbose o r s look look' a
    (subst (λ u. BoundaryName verbose u s look') (same_tail (sym b' ∙ b)) a')

-- what asks for digits asks for some
abbrev pub AsksForSome : EscapeKind → Type 0
AsksForSome (hexadecimal n) = 0 < n
AsksForSome _ = Unit {0}

pub asks_for_some : (c : ℕ) → AsksForSome (escape_kind c)
asks_for_some c = search rules

-- what may have a name in braces is `\b`
abbrev IsBoundary : ℕ → EscapeKind → Type 0
IsBoundary c word_boundary = c ≡ the "b"
IsBoundary c _ = Unit {0}

boundary_of : (c : ℕ) → IsBoundary c (escape_kind c)
boundary_of c = search rules

pub boundary_is_b : (c : ℕ) → word_boundary ≡ escape_kind c → c ≡ the "b"
boundary_is_b c asked = subst (λ k. IsBoundary c k) (sym asked) (boundary_of c)

escape_from_once : (kind : EscapeKind) (verbose : Bool) (t r s : Text) (p q : Primitive)
    → AsksForSome kind
    → EscapeFrom kind verbose t r p → EscapeFrom kind verbose t s q → (r ≡ s) × (p ≡ q)
escape_from_once (gives k) verbose t r s p q some a b = (sym a.0 ∙ b.0, a.1 ∙ sym b.1)
escape_from_once word_boundary verbose t r s p q some a b =
    let same = boundary_once verbose t r s a.0 b.0 a.1 b.1 in
    (same.0, a.2 ∙ ap look_at same.1 ∙ sym b.2)
escape_from_once (hexadecimal n) verbose t r s p q some a b =
    let same = hexadecimal_once verbose n t r s a.0 b.0 some a.1 b.1 in
    (same.0, a.2 ∙ ap one same.1 ∙ sym b.2)
escape_from_once refused verbose t r s p q some a b = absurd a

-- an escape goes on as the character after the backslash asks
pub escape_from : (verbose : Bool) (t past rest : Text) (p : Primitive) (c : ℕ) (kind : EscapeKind)
    → t ≡ c ∷ past
    → kind ≡ escape_kind c → Escape verbose t rest p → EscapeFrom kind verbose past rest p
escape_from verbose t past rest p c kind e asked escape =
    let same = sym escape.begins ∙ e in
    subst (λ u. EscapeFrom kind verbose u rest p) (same_tail same)
    (subst (λ k. EscapeFrom k verbose escape.past_first rest p)
    (ap escape_kind (same_head same) ∙ sym asked) escape.goes_on)

pub escape_as : (verbose : Bool) (t past rest : Text) (p : Primitive) (c : ℕ) (kind : EscapeKind)
    → t ≡ c ∷ past
    → kind ≡ escape_kind c → EscapeFrom kind verbose past rest p → Escape verbose t rest p
escape_as verbose t past rest p c kind e asked goes_on = record {
  first = c;
  past_first = past;
  begins = e;
  goes_on = subst (λ k. EscapeFrom k verbose past rest p) asked goes_on;
}

pub escape_once : (verbose : Bool) (t r s : Text) (p q : Primitive) → Escape verbose t r p
    → Escape verbose t s q → (r ≡ s) × (p ≡ q)
escape_once verbose t r s p q a b =
    escape_from_once (escape_kind a.first) verbose a.past_first r s p q
    (asks_for_some a.first) a.goes_on
    (escape_from verbose t a.past_first s q a.first _ a.begins refl b)
