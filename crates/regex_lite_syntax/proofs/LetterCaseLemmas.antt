-- The two cases of ASCII letters.
use Rattle.regex_lite_syntax.proofs.Common.{◌≡◌, ℕ, ◌+◌, ◌-◌, ◌<◌, ◌≤◌, min, max, true, ◌&&◌, ◌||◌}
use Rattle.regex_lite_syntax.proofs.Common.{[], ◌∷◌, IsTrue, ◌∙◌, inl, inr, arith, or_cases}
use Rattle.regex_lite_syntax.proofs.Common.{or_left, or_right, nat_tests, is_lower, is_letter}
use Rattle.regex_lite_syntax.proofs.Common.{in_ranges, AreRuns, AreRunsOf, just, span, case_closure}
use Rattle.regex_lite_syntax.proofs.Common.{ClassRange}
use Rattle.std.specs.Char.{is_ascii_alphabetic, to_ascii_uppercase, to_ascii_lowercase}
use Rattle.regex_lite_syntax.specs.Characters.{is_upper}

pub upper_case : (start end first last c : ℕ) → first ≡ max start 97 → last ≡ min end 122
    → first ≤ last
    → span (to_ascii_uppercase first) (to_ascii_uppercase last) c
    ≡ (is_upper c && span start end (c + 32))
upper_case start end first last c f l o = grind (arith, nat_tests)

pub lower_case : (start end first last c : ℕ) → first ≡ max start 65 → last ≡ min end 90
    → first ≤ last
    → span (to_ascii_lowercase first) (to_ascii_lowercase last) c
    ≡ (is_lower c && span start end (c - 32))
lower_case start end first last c f l o = grind (arith, nat_tests)

-- the ASCII letters
pub letter_as : (c : ℕ) → is_ascii_alphabetic c ≡ true → IsTrue (is_letter c)
letter_as c h =
    elim (or_cases (is_upper c) (is_lower c) h) [
      | inl e ↦ or_right (is_lower c) (is_upper c) e
      | inr e ↦ or_left (is_lower c) (is_upper c) e
    ]

-- the range of one character
abbrev pub alone : ℕ → ClassRange
alone c = record { start = c; end = c }

-- a letter's capital and its small form, each as a range, are runs
letter_runs : (c : ℕ) → IsTrue (is_letter c)
    → AreRuns 0 (alone (to_ascii_uppercase c) ∷ alone (to_ascii_lowercase c) ∷ [])
letter_runs c letter = grind (arith, nat_tests)

span_alone : (c d : ℕ) → c < 128 → span c c d ≡ just c d
span_alone c d ascii = grind (arith, nat_tests)

two_alone : (a b d : ℕ) → a < 128 → b < 128
    → in_ranges (alone a ∷ alone b ∷ []) d ≡ (just a d || just b d)
two_alone a b d first second = grind (arith, span_alone a d first, span_alone b d second)

two_cases : (c d : ℕ) → IsTrue (is_letter c)
    → (just (to_ascii_uppercase c) d || just (to_ascii_lowercase c) d) ≡ case_closure (just c) d
two_cases c d letter = grind (arith, nat_tests)

below_128 : (c : ℕ) → IsTrue (is_letter c)
    → (to_ascii_uppercase c < 128) × (to_ascii_lowercase c < 128)
below_128 c letter = grind (arith, nat_tests)

-- and hold its two cases
letter_members : (c d : ℕ) → IsTrue (is_letter c)
    → in_ranges (alone (to_ascii_uppercase c) ∷ alone (to_ascii_lowercase c) ∷ []) d
    ≡ case_closure (just c) d
letter_members c d letter =
    let ascii = below_128 c letter in
    two_alone (to_ascii_uppercase c) (to_ascii_lowercase c) d ascii.0 ascii.1 ∙ two_cases c d letter

-- so they are the runs of this set
pub letter_class : (c : ℕ) → IsTrue (is_letter c)
    → AreRunsOf (alone (to_ascii_uppercase c) ∷ alone (to_ascii_lowercase c) ∷ [])
    (case_closure (just c))
letter_class c letter =
    record { runs = letter_runs c letter; members = λ d. letter_members c d letter }
