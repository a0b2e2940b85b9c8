-- Hexadecimal digits that go on from a number that has been read.
use Rattle.regex_lite_syntax.proofs.Common.{◌≡◌, ℕ, ◌+◌, ◌*◌, ◌<◌, ◌≤◌, Bool, [], ◌∷◌, ◌++◌, length}
use Rattle.regex_lite_syntax.proofs.Common.{IsTrue, sym, refl, ap, ◌∙◌, subst, inl, inr, arith}
use Rattle.regex_lite_syntax.proofs.Common.{and_parts, or_cases, is_character, is_hex_digit}
use Rattle.regex_lite_syntax.proofs.Common.{digit_value, FixedDigits, Gap, WholeGap, Spaced, Lacks}
use Rattle.regex_lite_syntax.proofs.Common.{number_on, Text, Begins, the}
use Rattle.std.proofs.lemmas.Bool.{ltb-true}
use Rattle.std.specs.Char.{OutOfScalarRange}
use Rattle.regex_lite_syntax.proofs.ListLemmas.{same_head}
use Rattle.regex_lite_syntax.proofs.grammar.LongerGapLemmas.{whole_longer}
use Rattle.regex_lite_syntax.proofs.grammar.SpacedLemmas.{hex_digits_end, brace_past}
use Rattle.regex_lite_syntax.proofs.grammar.SpacedLemmas.{next_spaced, not_spaced}

-- past the gap stands a digit of this value
pub record DigitAt (verbose : Bool) (t past : Text) (v : ℕ) : Type 0 where
  pub digit : ℕ
  pub whole : WholeGap verbose t (digit ∷ past)
  pub is_digit : IsTrue (is_hex_digit digit)
  pub value : v ≡ digit_value digit

pub digit_at : {verbose : Bool} {t u past : Text} {d v : ℕ} → WholeGap verbose t u → u ≡ d ∷ past
    → IsTrue (is_hex_digit d) × (v ≡ digit_value d) × (v < 16) → DigitAt verbose t past v
digit_at {verbose} {t} {u} {past} {d} whole here valued = record {
  digit = d;
  whole = subst (λ w. WholeGap verbose t w) here whole;
  is_digit = valued.0;
  value = valued.1;
}

-- and there in each longer text
pub still_digit_at : {verbose : Bool} {t past : Text} {v : ℕ} (more : Text)
    → DigitAt verbose t past v → DigitAt verbose (t ++ more) (past ++ more) v
still_digit_at {verbose} {t} {past} more at = record {
  digit = at.digit;
  whole = whole_longer more verbose t (at.digit ∷ past) at.whole (λ e. cc e);
  is_digit = at.is_digit;
  value = at.value;
}

-- further digits, and the character of the whole number
pub record DigitsOn (verbose : Bool) (number : ℕ) (digits t last : Text) (c : ℕ) : Type 0 where
  pub written : Spaced verbose is_hex_digit digits t last
  pub scalar : IsTrue (is_character (number_on number digits))
  pub value : c ≡ number_on number digits

on_after : (verbose : Bool) (number d v : ℕ) (digits t past last : Text) (c : ℕ)
    → DigitAt verbose t past v → DigitsOn verbose number (d ∷ digits) t last c
    → DigitsOn verbose (number * 16 + v) digits past last c
on_after verbose number d v digits t past last c at on =
    let next =
    next_spaced verbose is_hex_digit at.digit d digits t _ past last hex_digits_end at.whole refl
    on.written in
    subst (λ n. DigitsOn verbose (number * 16 + n) digits past last c)
    (ap digit_value next.0 ∙ sym at.value)
    (record { written = next.1; scalar = on.scalar; value = on.value })

on_before : (verbose : Bool) (number v : ℕ) (digits t past last : Text) (c : ℕ)
    (at : DigitAt verbose t past v) → DigitsOn verbose (number * 16 + v) digits past last c
    → DigitsOn verbose number (at.digit ∷ digits) t last c
on_before verbose number v digits t past last c at on =
    let same = subst (λ n. DigitsOn verbose (number * 16 + n) digits past last c) at.value on in
    record {
      written = (past, at.whole.0, at.is_digit, same.written);
      scalar = same.scalar;
      value = same.value;
    }

pub on_grows : (digits : Text) (number : ℕ) → number ≤ number_on number digits
on_grows [] number = omega arith
on_grows (d ∷ digits) number =
    let further = on_grows digits (number * 16 + digit_value d) in omega (arith, further)

pub character_below : (c : ℕ) → IsTrue (is_character c) → c < 0x110000
character_below c h =
    elim (or_cases _ _ h) [
      | inl low ↦ (let below = ltb-true c 0xD800 low in omega (arith, below))
      | inr high ↦ ltb-true c 0x110000 (and_parts _ _ high).1
    ]

pub on_too_large : {verbose : Bool} {number : ℕ} {digits t last : Text} {c : ℕ}
    → DigitsOn verbose number digits t last c → 0x110000 ≤ number → ⊥
on_too_large {number} {digits} on large =
    omega (arith, on_grows digits number, character_below (number_on number digits) on.scalar)

-- what is out of range is no character
pub no_character : (n : ℕ) → OutOfScalarRange n → IsTrue (is_character n) → ⊥
no_character n (inl surrogate) h =
    elim (or_cases _ _ h) [
      | inl low ↦ (let below = ltb-true n 0xD800 low in omega (arith, surrogate.0, below))
      | inr high ↦
          (let above = ltb-true 0xDFFF n (and_parts _ _ high).0 in
          omega (arith, surrogate.1, above))
    ]
no_character n (inr large) h = let below = character_below n h in omega (arith, large, below)

-- the digits that are left of this many, after some of them
pub record FixedFrom (verbose : Bool) (number read n : ℕ) (t rest : Text) (c : ℕ) : Type 0 where
  pub digits : Text
  pub count : read + length digits ≡ n
  pub on : DigitsOn verbose number digits t rest c

pub fixed_after : {verbose : Bool} {number read n v : ℕ} {t past rest : Text} {c : ℕ}
    → DigitAt verbose t past v → read < n → FixedFrom verbose number read n t rest c
    → FixedFrom verbose (number * 16 + v) (read + 1) n past rest c
fixed_after {verbose} {number} {read} {n} {v} {t} {past} {rest} {c} at more f =
    go f.digits f.count f.on
  where
    go : (digits : Text) → read + length digits ≡ n → DigitsOn verbose number digits t rest c
        → FixedFrom verbose (number * 16 + v) (read + 1) n past rest c
    go [] count on = absurd (omega (arith, count, more))
    go (d ∷ digits) count on = record {
      digits = digits;
      count = omega (arith, count);
      on = on_after verbose number d v digits t past rest c at on;
    }

pub fixed_before : {verbose : Bool} {number read n v : ℕ} {t past rest : Text} {c : ℕ}
    → DigitAt verbose t past v → FixedFrom verbose (number * 16 + v) (read + 1) n past rest c
    → FixedFrom verbose number read n t rest c
fixed_before {verbose} {number} {read} {n} {v} {t} {past} {rest} {c} at f = record {
  digits = at.digit ∷ f.digits;
  count = omega (arith, f.count);
  on = on_before verbose number v f.digits t past rest c at f.on;
}

-- all digits have been read
pub fixed_scalar : {verbose : Bool} {number read n : ℕ} {t rest : Text} {c : ℕ} → n ≤ read
    → FixedFrom verbose number read n t rest c → IsTrue (is_character number)
fixed_scalar {verbose} {number} {read} {n} {t} {rest} {c} all f = go f.digits f.count f.on
  where
    go : (digits : Text) → read + length digits ≡ n → DigitsOn verbose number digits t rest c
        → IsTrue (is_character number)
    go [] count on = on.scalar
    go (d ∷ digits) count on = absurd (omega (arith, count, all))

-- a digit is wanted, and none stands there
pub fixed_stuck : {verbose : Bool} {number read n : ℕ} {t rest : Text} {c : ℕ} (u : Text)
    → WholeGap verbose t u
    → Lacks is_hex_digit u → read < n → FixedFrom verbose number read n t rest c → ⊥
fixed_stuck {verbose} {number} {read} {n} {t} {rest} {c} u whole lacks more f =
    go f.digits f.count f.on
  where
    go : (digits : Text) → read + length digits ≡ n → DigitsOn verbose number digits t rest c → ⊥
    go [] count on = omega (arith, count, more)
    go (d ∷ digits) count on =
        not_spaced verbose is_hex_digit d digits t u rest hex_digits_end whole lacks on.written

pub no_fixed : {verbose : Bool} {n : ℕ} {t rest : Text} {c : ℕ} (u : Text) → WholeGap verbose t u
    → Lacks is_hex_digit u → 0 < n → FixedDigits verbose n t rest c → ⊥
no_fixed {verbose} {n} {t} {rest} {c} u whole lacks some f =
    fixed_stuck {number = 0} {read = 0} u whole lacks some (record {
      digits = f.digits;
      count = omega (arith, f.count);
      on = record { written = f.written; scalar = f.scalar; value = f.value };
    })

-- the digits that are left before the brace that closes, after some characters
pub record BracedFrom (verbose : Bool) (number read : ℕ) (t rest : Text) (c : ℕ) : Type 0 where
  pub digits : Text
  pub last : Text
  pub some : 0 < read + length digits
  pub closes : Gap verbose last (the "}" ∷ rest)
  pub on : DigitsOn verbose number digits t last c

pub braced_after : {verbose : Bool} {number read read' v : ℕ} {t past rest : Text} {c : ℕ}
    → DigitAt verbose t past v → 0 < read' → BracedFrom verbose number read t rest c
    → BracedFrom verbose (number * 16 + v) read' past rest c
braced_after {verbose} {number} {read} {read'} {v} {t} {past} {rest} {c} at some b =
    go b.digits b.on
  where
    go : (digits : Text) → DigitsOn verbose number digits t b.last c
        → BracedFrom verbose (number * 16 + v) read' past rest c
    go [] on =
        let closed = same_head (brace_past verbose t _ b.last rest at.whole on.written b.closes) in
        cc (ap is_hex_digit closed, at.is_digit)
    go (d ∷ digits) on = record {
      digits = digits;
      last = b.last;
      some = omega (arith, some);
      closes = b.closes;
      on = on_after verbose number d v digits t past b.last c at on;
    }

pub braced_before : {verbose : Bool} {number read read' v : ℕ} {t past rest : Text} {c : ℕ}
    → DigitAt verbose t past v → BracedFrom verbose (number * 16 + v) read' past rest c
    → BracedFrom verbose number read t rest c
braced_before {verbose} {number} {read} {read'} {v} {t} {past} {rest} {c} at b = record {
  digits = at.digit ∷ b.digits;
  last = b.last;
  some = omega arith;
  closes = b.closes;
  on = on_before verbose number v b.digits t past b.last c at b.on;
}

-- the brace stands there
pub braced_scalar : {verbose : Bool} {number read : ℕ} {t rest : Text} {c : ℕ} (u past : Text)
    (d : ℕ) → WholeGap verbose t u → u ≡ d ∷ past
    → d ≡ the "}" → BracedFrom verbose number read t rest c → IsTrue (is_character number)
braced_scalar {verbose} {number} {read} {t} {rest} {c} u past d whole here closes b =
    go b.digits b.on
  where
    go : (digits : Text) → DigitsOn verbose number digits t b.last c → IsTrue (is_character number)
    go [] on = on.scalar
    go (d' ∷ digits) on =
        absurd (not_spaced verbose is_hex_digit d' digits t u b.last hex_digits_end whole
        (subst (λ v. Lacks is_hex_digit v) (sym here) (ap is_hex_digit closes)) on.written)

-- no digit stands there, nor a brace that may close
pub braced_stuck : {verbose : Bool} {number read : ℕ} {t rest : Text} {c : ℕ} (u : Text)
    → WholeGap verbose t u → Lacks is_hex_digit u → (Begins (the "}") u → 0 < read
    → ⊥) → BracedFrom verbose number read t rest c → ⊥
braced_stuck {verbose} {number} {read} {t} {rest} {c} u whole lacks unclosed b =
    go b.digits b.some b.on
  where
    go : (digits : Text) → 0 < read + length digits → DigitsOn verbose number digits t b.last c → ⊥
    go [] some on =
        let closed = brace_past verbose t u b.last rest whole on.written b.closes in
        unclosed (subst (λ v. Begins (the "}") v) (sym closed) refl) (omega (arith, some))
    go (d ∷ digits) some on =
        not_spaced verbose is_hex_digit d digits t u b.last hex_digits_end whole lacks on.written
