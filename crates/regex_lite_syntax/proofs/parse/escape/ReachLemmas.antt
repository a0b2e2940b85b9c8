-- Which numbers hexadecimal digits make of one that has been read.
use Rattle.regex_lite_syntax.proofs.Common.{◌≡◌, ℕ, zero, suc, ◌+◌, ◌*◌, ◌/◌, ◌%◌, ◌<◌, ◌≤◌, min}
use Rattle.regex_lite_syntax.proofs.Common.{true, ◌&&◌, [], ◌∷◌, ◌++◌, length, if◌then◌else◌}
use Rattle.regex_lite_syntax.proofs.Common.{IsTrue, nat_lt, ◌==◌, codes, sym, refl, ap, ◌∙◌, subst}
use Rattle.regex_lite_syntax.proofs.Common.{arith, length-append, and_from, and_parts, eqb-true}
use Rattle.regex_lite_syntax.proofs.Common.{nat_tests, list_all-append, fold-append, list_all}
use Rattle.regex_lite_syntax.proofs.Common.{is_character, is_hex_digit, digit_value, number_on}
use Rattle.regex_lite_syntax.proofs.Common.{ReachesNumber, Text}
use Rattle.std.proofs.lemmas.Bool.{agree_below_at}
use Rattle.regex_lite_syntax.proofs.parse.escape.DigitLemmas.{on_grows, character_below}

-- the least and the greatest number that this many further digits can make of a number
abbrev pub lowest : (digits number : ℕ) → ℕ
lowest zero number = number
lowest (suc k) number = lowest k number * 16

abbrev pub highest : (digits number : ℕ) → ℕ
highest zero number = number
highest (suc k) number = highest k number * 16 + 15

-- the least digit, or the greatest, may be added before the others as well as after them
lowest_first : (k number : ℕ) → lowest k (number * 16) ≡ lowest (suc k) number
lowest_first zero number = refl
lowest_first (suc k) number = ap (λ n. n * 16) (lowest_first k number)

highest_first : (k number : ℕ) → highest k (number * 16 + 15) ≡ highest (suc k) number
highest_first zero number = refl
highest_first (suc k) number = ap (λ n. n * 16 + 15) (highest_first k number)

-- both grow with the number
lowest_above : (k m n : ℕ) → m ≤ n → lowest k m ≤ lowest k n
lowest_above zero m n above = above
lowest_above (suc k) m n above = let further = lowest_above k m n above in omega (arith, further)

highest_above : (k m n : ℕ) → m ≤ n → highest k m ≤ highest k n
highest_above zero m n above = above
highest_above (suc k) m n above = let further = highest_above k m n above in omega (arith, further)

-- the digit of a value
abbrev digit_of : ℕ → ℕ
digit_of v = if nat_lt v 10 then v + 0x30 else v + 0x37

digit_is : (v : ℕ) → v < 16 → (is_hex_digit (digit_of v) && (digit_value (digit_of v) == v)) ≡ true
digit_is v small =
    agree_below_at (λ w. is_hex_digit (digit_of w) && (digit_value (digit_of w) == w)) (λ _. true)
    16 v refl small

digit_below : (d : ℕ) → IsTrue (is_hex_digit d) → digit_value d ≤ 15
digit_below d is = grind (arith, nat_tests)

-- whatever the digits are, the number lies between the two
pub within : (k number : ℕ) (digits : Text) → length digits ≡ k
    → IsTrue (list_all is_hex_digit digits)
    → (lowest k number ≤ number_on number digits) × (number_on number digits ≤ highest k number)
within zero number [] count all = (omega arith, omega arith)
within zero number (d ∷ digits) count all = absurd (omega (arith, count))
within (suc k) number [] count all = absurd (omega (arith, count))
within (suc k) number (d ∷ digits) count all =
    let parts = and_parts _ _ all in
    let small = digit_below d parts.0 in
    let value = digit_value d in
    let further = within k (number * 16 + value) digits (omega (arith, count)) parts.1 in
    let low = lowest_above k (number * 16) (number * 16 + value) (omega arith) in
    let high = highest_above k (number * 16 + value) (number * 16 + 15) (omega (arith, small)) in
    let last = highest_first k number in
    (omega (arith, further, low, lowest_first k number), omega (arith, further, high, last))

-- and some digits make each number between them
made_next : (k number c : ℕ) (digits : Text) → length digits ≡ k
    → IsTrue (list_all is_hex_digit digits) → number_on number digits ≡ c / 16
    → (further : Text) × (length further ≡ suc k) × IsTrue (list_all is_hex_digit further)
    × (number_on number further ≡ c)
made_next k number c digits count all value =
    let d = digit_of (c % 16) in
    let is = and_parts _ _ (digit_is (c % 16) (omega arith)) in
    let valued : digit_value d ≡ c % 16 = eqb-true _ _ is.1 in (
      digits ++ d ∷ [],
      omega (arith, count, length-append digits (d ∷ [])),
      list_all-append is_hex_digit digits (d ∷ []) ∙ and_from _ _ all (and_from _ _ is.0 refl),
      fold-append _ number digits (d ∷ []) ∙ omega (arith, value, valued),
    )

pub made : (k number c : ℕ) → lowest k number ≤ c → c ≤ highest k number
    → (digits : Text) × (length digits ≡ k) × IsTrue (list_all is_hex_digit digits)
    × (number_on number digits ≡ c)
made zero number c low high = ([], refl, refl, omega arith)
made (suc k) number c low high =
    let before = made k number (c / 16) (omega arith) (omega arith) in
    made_next k number c before.0 before.1 before.2 before.3

-- a character between the two is made
pub reached : (k number least low high last : ℕ) → low ≡ min (lowest k number) 0x110000
    → high ≡ min (highest k number) 0x10FFFF → IsTrue (is_character last) → last ≤ high
    → least ≤ last → low ≤ last
    → (further : Text) × ReachesNumber number least further × (length further ≡ k)
reached k number least low high last first end scalar inside far from =
    let digits = made k number last (omega arith) (omega arith) in (
      digits.0,
      record {
        are_digits = digits.2;
        scalar = subst (λ n. IsTrue (is_character n)) (sym digits.3) scalar;
        far = omega (arith, digits.3, far);
      },
      digits.1,
    )

-- where the last character up to the second is before the first, or before `least`, none is made
pub unreached : (k number least low high last : ℕ) → low ≡ min (lowest k number) 0x110000
    → high ≡ min (highest k number) 0x10FFFF
    → ((c : ℕ) → IsTrue (is_character c) → c ≤ high → c ≤ last)
    → ((c : ℕ) → low ≤ c → least ≤ c → c ≤ last → ⊥)
    → (further : Text) → length further ≡ k → ReachesNumber number least further → ⊥
unreached k number least low high last first end is_last none further count reaches =
    let bounds = within k number further count reaches.are_digits in
    let c = number_on number further in
    none c (omega (arith, bounds)) reaches.far
    (is_last c reaches.scalar (omega (arith, bounds, character_below c reaches.scalar)))

-- with `k` digits or more the number is no smaller than the least with `k`
with_more : (k number : ℕ) (digits : Text) → k ≤ length digits
    → lowest k number ≤ number_on number digits
with_more zero number digits many = on_grows digits number
with_more (suc k) number [] many = absurd (omega (arith, many))
with_more (suc k) number (d ∷ digits) many =
    let value = digit_value d in
    let low = lowest_above k (number * 16) (number * 16 + value) (omega arith) in
    let first = lowest_first k number in
    omega (arith, with_more k (number * 16 + value) digits (omega (arith, many)), low, first)

-- with six further digits every number but 0 is too large
pub six_too_many : (number least : ℕ) (further : Text) → 0 < number → 6 ≤ length further
    → ReachesNumber number least further → ⊥
six_too_many number least further some many reaches =
    let grown : number * 16 * 16 * 16 * 16 * 16 * 16 ≤ number_on number further =
    with_more 6 number further many in
    omega (arith, some, grown, character_below (number_on number further) reaches.scalar)

-- after 0 the digits of the last character may follow
pub last_reached : (number least : ℕ) → number ≡ 0 → least ≤ 0x10FFFF
    → (further : Text) × ReachesNumber number least further × (0 < number + length further)
last_reached number least none inside =
    subst (λ n. (further : Text) × ReachesNumber n least further × (0 < n + length further))
    (sym none)
    (codes "10FFFF", record { are_digits = refl; scalar = refl; far = inside }, omega arith)
