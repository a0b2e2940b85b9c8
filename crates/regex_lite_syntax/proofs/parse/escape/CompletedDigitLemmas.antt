-- Hexadecimal digits that complete a number at the end of a pattern.
use Rattle.regex_lite_syntax.proofs.Common.{◌≡◌, ℕ, ◌+◌, ◌<◌, ◌≤◌, Bool, [], ◌∷◌, ◌++◌, length}
use Rattle.regex_lite_syntax.proofs.Common.{IsTrue, codes, refl, subst, append_assoc, arith, rules}
use Rattle.regex_lite_syntax.proofs.Common.{and_parts, nat_tests, is_character, is_hex_digit}
use Rattle.regex_lite_syntax.proofs.Common.{FixedDigits, BracedDigits, Hexadecimal, braced, Gap}
use Rattle.regex_lite_syntax.proofs.Common.{number_on, ReachesNumber, Completable, Text, the}
use Rattle.regex_lite_syntax.proofs.grammar.CompletedGapLemmas.{spaced_on, gap_completed}
use Rattle.regex_lite_syntax.proofs.grammar.CompletedGapLemmas.{spaced_together}
use Rattle.regex_lite_syntax.proofs.grammar.CompletedGapLemmas.{spaced_are}
use Rattle.regex_lite_syntax.proofs.grammar.GapLemmas.{empty_gap}
use Rattle.regex_lite_syntax.proofs.grammar.ResumedGapLemmas.{resumed, resumed_characters}
use Rattle.regex_lite_syntax.proofs.parse.escape.DigitLemmas.{FixedFrom, BracedFrom, DigitsOn}
use Rattle.regex_lite_syntax.proofs.grammar.WordLemmas.{all_characters}
use Rattle.regex_lite_syntax.proofs.CharacterLemmas.{joined_are}

on_reaches : {verbose : Bool} {number : ℕ} {digits t last : Text} {c : ℕ} (least : ℕ)
    → DigitsOn verbose number digits t last c → least ≤ c → ReachesNumber number least digits
on_reaches {verbose} {number} {digits} {t} {last} {c} least on far = record {
  are_digits = spaced_are verbose is_hex_digit digits t last on.written;
  scalar = on.scalar;
  far = omega (arith, on.value, far);
}

-- where no digits of this number reach that far, no reading comes to stand
pub fixed_short : {verbose : Bool} {number read n : ℕ} {t rest : Text} {c : ℕ} (least left : ℕ)
    → left + read ≡ n
    → ((further : Text) → length further ≡ left → ReachesNumber number least further → ⊥)
    → FixedFrom verbose number read n t rest c → least ≤ c → ⊥
fixed_short {verbose} {number} {read} {n} {t} {rest} {c} least left count none f far =
    none f.digits (omega (arith, count, f.count)) (on_reaches least f.on far)

pub braced_short : {verbose : Bool} {number read : ℕ} {t rest : Text} {c : ℕ} (least : ℕ)
    → ((further : Text) → ReachesNumber number least further → ⊥)
    → BracedFrom verbose number read t rest c → least ≤ c → ⊥
braced_short {verbose} {number} {read} {t} {rest} {c} least none b far =
    none b.digits (on_reaches least b.on far)

-- the digits that reach it complete the number
pub fixed_completed : (verbose : Bool) (number read n least left : ℕ) (t further next : Text)
    → left + read ≡ n → read < n → Gap verbose t [] → ReachesNumber number least further
    → length further ≡ left
    → FixedFrom verbose number read n (t ++ ((resumed verbose ++ further) ++ next)) next
    (number_on number further)
fixed_completed verbose number read n least left t [] next count some gap reaches all =
    absurd (omega (arith, count, some, all))
fixed_completed verbose number read n least left t (d ∷ further) next count some gap reaches all =
    let parts = and_parts _ _ reaches.are_digits in
    record {
      digits = d ∷ further;
      count = omega (arith, count, all);
      on = record {
        written = (
          further ++ next,
          gap_completed verbose t (d ∷ further) next gap,
          parts.0,
          spaced_together verbose is_hex_digit further next parts.1,
        );
        scalar = reaches.scalar;
        value = refl;
      };
    }

-- and the brace after them
abbrev pub closed : Text → Text
closed further = further ++ the "}" ∷ []

pub braced_completed : (verbose : Bool) (number read least : ℕ) (t further next : Text)
    → (0 < number → 0 < read) → Gap verbose t [] → ReachesNumber number least further
    → 0 < number + length further
    → BracedFrom verbose number read (t ++ ((resumed verbose ++ closed further) ++ next)) next
    (number_on number further)
braced_completed verbose number read least t further next before gap reaches some =
    let on =
    spaced_on verbose is_hex_digit further (t ++ ((resumed verbose ++ closed further) ++ next))
    (the "}" ∷ next) reaches.are_digits
    (subst (λ u. Gap verbose (t ++ ((resumed verbose ++ closed further) ++ next)) u)
    (append_assoc further (the "}" ∷ []) next)
    (gap_completed verbose t (closed further) next gap)) in
    record {
      digits = further;
      last = on.0;
      some = grind (arith, some, before);
      closes = on.2;
      on = record { written = on.1; scalar = reaches.scalar; value = refl };
    }

-- digits are characters
digit_is_character : (c : ℕ) → IsTrue (is_hex_digit c) → IsTrue (is_character c)
digit_is_character c is = grind (arith, nat_tests)

-- so what the digits complete can be completed
pub fixed_completable : {verbose : Bool} {number read n : ℕ} (least left : ℕ) (t start : Text)
    → left + read ≡ n → read < n → Gap verbose t []
    → ((more rest : Text) (c : ℕ) → FixedFrom verbose number read n (t ++ more) rest c
    → FixedDigits verbose n (start ++ more) rest c)
    → (further : Text) × ReachesNumber number least further × (length further ≡ left)
    → Completable (λ u rest. (c : ℕ) × FixedDigits verbose n u rest c × (least ≤ c)) start
fixed_completable {verbose} {number} {read} {n} least left t start count some gap goes
    (further, reaches, all) = record {
      more = resumed verbose ++ further;
      characters = resumed_characters verbose further
          (all_characters is_hex_digit further digit_is_character reaches.are_digits);
      reads = λ next. (
        number_on number further,
        goes ((resumed verbose ++ further) ++ next) next _
            (fixed_completed verbose number read n least left t further next count some gap reaches
            all),
        reaches.far,
      );
    }

pub braced_completable : {verbose : Bool} {number read : ℕ} (least : ℕ) (t start : Text)
    → (0 < number → 0 < read) → Gap verbose t []
    → ((more rest : Text) (c : ℕ) → BracedFrom verbose number read (t ++ more) rest c
    → BracedDigits verbose (start ++ more) rest c)
    → (further : Text) × ReachesNumber number least further × (0 < number + length further)
    → Completable (λ u rest. (c : ℕ) × BracedDigits verbose u rest c × (least ≤ c)) start
braced_completable {verbose} {number} {read} least t start before gap goes
    (further, reaches, some) = record {
      more = resumed verbose ++ closed further;
      characters = resumed_characters verbose (closed further)
          (joined_are further (the "}" ∷ [])
          (all_characters is_hex_digit further digit_is_character reaches.are_digits) (refl, tt));
      reads = λ next. (
        number_on number further,
        goes ((resumed verbose ++ closed further) ++ next) next _
            (braced_completed verbose number read least t further next before gap reaches some),
        reaches.far,
      );
    }

-- past the letter that asks for digits, those of the last character may stand in braces
pub number_completable : (verbose : Bool) (n least : ℕ) (t : Text) → least ≤ 0x10FFFF
    → Gap verbose t []
    → Completable (λ u rest. (c : ℕ) × Hexadecimal verbose n u rest c × (least ≤ c)) t
number_completable verbose n least t inside gap = record {
  more = resumed verbose ++ codes "{10FFFF}";
  characters = resumed_characters verbose (codes "{10FFFF}") (search rules);
  reads = λ next. (
    0x10FFFF,
    braced (codes "10FFFF}" ++ next) (gap_completed verbose t (codes "{10FFFF}") next gap)
        (record {
          digits = codes "10FFFF";
          last = the "}" ∷ next;
          written = spaced_together verbose is_hex_digit (codes "10FFFF") (the "}" ∷ next) refl;
          closes = empty_gap verbose (the "}" ∷ next);
          some = omega arith;
          scalar = refl;
          value = refl;
        }),
    inside,
  );
}
