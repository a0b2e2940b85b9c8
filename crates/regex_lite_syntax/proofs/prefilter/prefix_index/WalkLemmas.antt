-- The words of the rows, and the numbers of the patterns that may start.
use Rattle.regex_lite_syntax.proofs.Common.{◌≡◌, ℕ, zero, suc, ◌+◌, ◌-◌, ◌*◌, ◌%◌, ◌<◌, ◌≤◌, Bool}
use Rattle.regex_lite_syntax.proofs.Common.{true, false, cond, ◌&&◌, ◌||◌, List, [], ◌∷◌, ◌++◌}
use Rattle.regex_lite_syntax.proofs.Common.{length, is_none, ◌==◌, slice_index, bit_and, bit_or}
use Rattle.regex_lite_syntax.proofs.Common.{Some, None, Option, option_map, sym, ap, ◌∙◌, arith}
use Rattle.regex_lite_syntax.proofs.Common.{nat_tests, bit_at, range_with_len, may_start, column}
use Rattle.regex_lite_syntax.proofs.Common.{first_row, second_row, start_row, has, set_from}
use Rattle.regex_lite_syntax.proofs.Common.{PrefixIndex}
use Rattle.std.specs.List.{filter}
use Rattle.std.specs.Prelude.{unwrap_or}
use Rattle.std.proofs.lemmas.Bool.{and_right}
use Rattle.std.proofs.lemmas.List.{append-nil, length-append}
use Rattle.std.proofs.lemmas.Nat.Bits.{bit_at-lt, bit_at_and, bit_at_or}
use Rattle.std.proofs.Math.Bool.{and_self}
use Rattle.regex_lite_syntax.specs.declared.prefilter.prefix_index.rows.BitRows.{BitRows}
use Rattle.regex_lite_syntax.specs.Prefilter.PrefixIndex.{IsWalkable}
use Rattle.regex_lite_syntax.specs.Prefilter.Pairs.{NeverBeginsWith}
use Rattle.regex_lite_syntax.proofs.prefilter.prefix_index.NumberLemmas.{filter_none, filter_parts}
use Rattle.regex_lite_syntax.proofs.prefilter.prefix_index.NumberLemmas.{set_passes}
use Rattle.regex_lite_syntax.proofs.prefilter.prefix_index.RowBitLemmas.{word_of_bit}

pub bit_of_both : (a b i : ℕ)
    → (bit_at (bit_and a b) i == 1) ≡ ((bit_at a i == 1) && (bit_at b i == 1))
bit_of_both a b i =
    let bit_of_a : bit_at a i < 2 = bit_at-lt a i in
    let bit_of_b : bit_at b i < 2 = bit_at-lt b i in
    rw bit_at_and (grind (arith, nat_tests))

pub bit_of_either : (a b i : ℕ)
    → (bit_at (bit_or a b) i == 1) ≡ ((bit_at a i == 1) || (bit_at b i == 1))
bit_of_either a b i =
    let bit_of_a : bit_at a i < 2 = bit_at-lt a i in
    let bit_of_b : bit_at b i < 2 = bit_at-lt b i in
    rw bit_at_or (grind (arith, nat_tests))

-- a bit of a word of the row
pub bit_in_row : (rows : BitRows) (row k n word : ℕ)
    → word ≡ slice_index rows.words.items (row * rows.width + k) → 64 * k ≤ n → n < 64 * (k + 1)
    → (bit_at word (n - 64 * k) == 1) ≡ has rows row n
bit_in_row rows row k n word is low high =
    let place = word_of_bit (row * rows.width) n k low high in
    ap (λ w. bit_at w (n - 64 * k) == 1) is
    ∙ sym (ap (λ i. bit_at (slice_index rows.words.items i)
    ((64 * (row * rows.width) + n) % 64) == 1)
    place.0
    ∙ ap (λ i. bit_at (slice_index rows.words.items (row * rows.width + k)) i == 1) place.1)

-- what the rows of both characters say
pub by_rows : (prefixes : PrefixIndex) (b : Option ℕ) (c : ℕ) (second : Option ℕ) (row : ℕ)
    → row ≡ unwrap_or (option_map second_row second) (first_row c) → (n : ℕ)
    → ((has prefixes.rows (first_row c) n && has prefixes.rows row n)
    || (is_none b && has prefixes.rows start_row n)) ≡ may_start prefixes b (Some c) second n
by_rows prefixes b c None row is n =
    ap (λ r. (has prefixes.rows (first_row c) n && has prefixes.rows r n)
    || (is_none b && has prefixes.rows start_row n)) is
    ∙ ap (λ z. z || (is_none b && has prefixes.rows start_row n))
    (and_self (has prefixes.rows (first_row c) n))
by_rows prefixes b c (Some d) row is n =
    ap (λ r. (has prefixes.rows (first_row c) n && has prefixes.rows r n)
    || (is_none b && has prefixes.rows start_row n)) is

-- the bits of a word show which of its patterns may start
pub word_tells : (prefixes : PrefixIndex) (b : Option ℕ) (c : ℕ) (second : Option ℕ)
    (k word first row : ℕ)
    → first ≡ first_row c → row ≡ unwrap_or (option_map second_row second) first
    → ((n : ℕ) → 64 * k ≤ n → n < 64 * (k + 1) → (bit_at word (n - 64 * k) == 1)
    ≡ ((has prefixes.rows first n && has prefixes.rows row n)
    || (is_none b && has prefixes.rows start_row n)))
    → set_from (64 * k) word
    ≡ filter (may_start prefixes b (Some c) second) (range_with_len (64 * k) 64)
word_tells prefixes b c second k word first row first_is row_is bits =
    set_passes (may_start prefixes b (Some c) second) (64 * k) word
    (λ n low high. bits n low (omega (arith, high))
    ∙ ap (λ r. (has prefixes.rows r n && has prefixes.rows row n)
    || (is_none b && has prefixes.rows start_row n)) first_is
    ∙ by_rows prefixes b c second row
    (row_is ∙ ap (unwrap_or (option_map second_row second)) first_is) n)

pub column_in : (c : ℕ) → column c < 129
column_in c = grind (arith, nat_tests)

-- no pattern is after the last
pub none_starts_beyond : (prefixes : PrefixIndex) → IsWalkable prefixes → (b : Option ℕ) (c : ℕ)
    (second : Option ℕ) (n : ℕ) → prefixes.count ≤ n → n < 64 * prefixes.rows.width
    → may_start prefixes b (Some c) second n ≡ false
none_starts_beyond prefixes w b c second n low high = by_second second
  where
    first_off : has prefixes.rows (first_row c) n ≡ false
    first_off =
        let inside = column_in c in
        w.none_beyond (first_row c) n (omega (arith, inside)) low high

    start_off : (is_none b && has prefixes.rows start_row n) ≡ false
    start_off = and_right (is_none b) (has prefixes.rows start_row n)
        (w.none_beyond start_row n (omega arith) low high)

    by_second : (second : Option ℕ) → may_start prefixes b (Some c) second n ≡ false
    by_second None =
        ap (λ z. z || (is_none b && has prefixes.rows start_row n)) first_off ∙ start_off
    by_second (Some d) =
        ap (λ z. (z && has prefixes.rows (second_row d) n)
        || (is_none b && has prefixes.rows start_row n))
        first_off
        ∙ start_off

-- none is listed after the haystack's start where no match begins with both characters
pub none_listed : (prefixes : PrefixIndex) → IsWalkable prefixes → (b : Option ℕ) (c : ℕ)
    (second : Option ℕ) → is_none b ≡ false → NeverBeginsWith prefixes c second
    → filter (may_start prefixes b (Some c) second) (range_with_len 0 prefixes.count) ≡ []
none_listed prefixes w b c None later never = absurd never
none_listed prefixes w b c (Some d) later (c_in, d_in, off) =
    filter_none (may_start prefixes b (Some c) (Some d)) 0 prefixes.count
    (λ n low high. ap (λ z. z || (is_none b && has prefixes.rows start_row n))
    (w.not_in_rows c d n c_in d_in (omega (arith, high)) off)
    ∙ ap (λ z. z && has prefixes.rows start_row n) later)

pub filter_at_most : (p : ℕ → Bool) (a n : ℕ) → length (filter p (range_with_len a n)) ≤ n
filter_at_most p a zero = omega arith
filter_at_most p a (suc n) = one_more (p a) (filter p (range_with_len (a + 1) n))
    (filter_at_most p (a + 1) n)
  where
    one_more : (b : Bool) (rest : List ℕ) → length rest ≤ n
        → length (cond b (a ∷ rest) rest) ≤ suc n
    one_more true rest le = omega (arith, le)
    one_more false rest le = omega (arith, le)

module _ (p : ℕ → Bool) (count width : ℕ) (enough : count ≤ 64 * width)
    (none : (n : ℕ) → count ≤ n → n < 64 * width → p n ≡ false) where
  -- after the last there is nothing to list
  pub all_words : filter p (range_with_len 0 (64 * width)) ≡ filter p (range_with_len 0 count)
  all_words =
      let total : 64 * width ≡ count + (64 * width - count) = omega (arith, enough) in
      let from : 0 + count ≡ count = omega arith in
      ap (λ n. filter p (range_with_len 0 n)) total
      ∙ filter_parts p 0 count (64 * width - count)
      ∙ ap (λ rest. filter p (range_with_len 0 count) ++ rest)
      (ap (λ a. filter p (range_with_len a (64 * width - count))) from
      ∙ filter_none p count (64 * width - count)
      (λ n low high. none n low (omega (arith, high, enough))))
      ∙ append-nil (filter p (range_with_len 0 count))

  module _ (k : ℕ) (inside : k < width) where
    -- a word more
    pub word_more : filter p (range_with_len 0 (64 * (k + 1)))
        ≡ filter p (range_with_len 0 (64 * k)) ++ filter p (range_with_len (64 * k) 64)
    word_more =
        let total : 64 * (k + 1) ≡ 64 * k + 64 = omega arith in
        let from : 0 + 64 * k ≡ 64 * k = omega arith in
        ap (λ n. filter p (range_with_len 0 n)) total
        ∙ filter_parts p 0 (64 * k) 64
        ∙ ap (λ a. filter p (range_with_len 0 (64 * k)) ++ filter p (range_with_len a 64)) from

    pub fits_word : length (filter p (range_with_len 0 (64 * k)))
        + length (filter p (range_with_len (64 * k) 64)) ≤ count
    fits_word =
        let total : 64 * width ≡ 64 * (k + 1) + 64 * (width - (k + 1)) = omega (arith, inside) in
        let before : ℕ = 64 * (k + 1) in
        let later : ℕ = 64 * (width - (k + 1)) in
        let all = ap (λ n. filter p (range_with_len 0 n)) total ∙ filter_parts p 0 before later in
        let lengths = length-append (filter p (range_with_len 0 before))
        (filter p (range_with_len (0 + before) later)) in
        let parts = ap length word_more in
        let two = length-append (filter p (range_with_len 0 (64 * k)))
        (filter p (range_with_len (64 * k) 64)) in
        let most = filter_at_most p 0 count in
        let same = ap length all_words in
        let whole = ap length all in
        omega (arith, lengths, parts, two, most, same, whole)
