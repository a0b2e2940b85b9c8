-- Slots that are not there yet are as good as blank.
use Rattle.regex_lite_engine.proofs.Common.{◌≡◌, ℕ, ◌+◌, ◌-◌, ◌*◌, ◌<◌, ◌≤◌, List, [], ◌++◌, length}
use Rattle.regex_lite_engine.proofs.Common.{take, drop, set, replicate, slice_index_or, None}
use Rattle.regex_lite_engine.proofs.Common.{Option, sym, ap, ◌∙◌, arith, length-append, length-drop}
use Rattle.regex_lite_engine.proofs.Common.{length-set, append-nil, length-replicate}
use Rattle.regex_lite_engine.proofs.Common.{length-take-le, Row}
use Rattle.std.proofs.lemmas.List.{drop-append-le, take-append-le, append_assoc}
use Rattle.std.proofs.lemmas.List.{replicate-append-replicate, set-append_left}
use Rattle.regex_lite_engine.specs.Pikevm.Cells.{padded, rows_in, AreRows}
use Rattle.regex_lite_engine.proofs.pikevm.rows.RowLemmas.{inside_slots, row_of_view}
use Rattle.regex_lite_engine.proofs.pikevm.rows.RowLemmas.{row_of_view_long, view_over, view_put}
use Rattle.regex_lite_engine.proofs.pikevm.rows.RowLemmas.{row_first, row_is, row_long, row_inside}
use Rattle.regex_lite_engine.proofs.pikevm.rows.RowLemmas.{number_inside}

abbrev blanks : ℕ → Row
blanks n = replicate n None

pub padded_long : (slots : Row) (n : ℕ) → length slots ≤ n → length (padded slots n) ≡ n
padded_long slots n le = omega (
  arith,
  le,
  length-append slots (blanks (n - length slots)),
  length-replicate {A = Option ℕ} (n - length slots) None,
)

-- some of them are there now
pub more_long : (slots : Row) (k : ℕ) → length (slots ++ blanks k) ≡ length slots + k
more_long slots k =
    length-append slots (blanks k)
    ∙ ap (λ z. length slots + z) (length-replicate {A = Option ℕ} k None)

pub padded_more : (slots : Row) (k n : ℕ) → length slots + k ≤ n
    → padded (slots ++ blanks k) n ≡ padded slots n
padded_more slots k n le =
    let sum : k + (n - length (slots ++ blanks k)) ≡ n - length slots =
    omega (arith, le, more_long slots k) in
    append_assoc slots (blanks k) (blanks (n - length (slots ++ blanks k)))
    ∙ ap (λ z. slots ++ z)
    (replicate-append-replicate k (n - length (slots ++ blanks k)) None ∙ ap blanks sum)

-- a part of those that are there
pub padded_part : (slots : Row) (i w n : ℕ) → i + w ≤ length slots
    → take w (drop i (padded slots n)) ≡ take w (drop i slots)
padded_part slots i w n le =
    let pad = blanks (n - length slots) in
    ap (take w) (drop-append-le i slots pad (omega (arith, le)))
    ∙ take-append-le w (drop i slots) pad (omega (arith, le, length-drop i slots))

pub padded_start : (slots : Row) (w n : ℕ) → w ≤ length slots
    → take w (padded slots n) ≡ take w slots
padded_start slots w n le = take-append-le w slots (blanks (n - length slots)) le

-- a part of those is written over
pub padded_over : (slots slots' mid : Row) (i j n : ℕ) → i ≤ length slots → j ≤ length slots
    → length slots' ≡ length slots → slots' ≡ take i slots ++ (mid ++ drop j slots) →
    padded slots' n ≡ take i (padded slots n) ++ (mid ++ drop j (padded slots n))
padded_over slots slots' mid i j n lei lej same e =
    let pad = blanks (n - length slots) in
    ap (λ m. slots' ++ blanks (n - m)) same
    ∙ ap (λ z. z ++ pad) e
    ∙ append_assoc (take i slots) (mid ++ drop j slots) pad
    ∙ ap (λ z. take i slots ++ z) (append_assoc mid (drop j slots) pad)
    ∙ ap (λ z. take i slots ++ (mid ++ z)) (sym (drop-append-le j slots pad lej))
    ∙ ap (λ z. z ++ (mid ++ drop j (slots ++ pad))) (sym (take-append-le i slots pad lei))

-- one of those is written over
pub padded_put : (slots : Row) (slot : ℕ) (held : Option ℕ) (n : ℕ) → slot < length slots
    → padded (set slots slot held) n ≡ set (padded slots n) slot held
padded_put slots slot held n lt =
    ap (λ m. set slots slot held ++ blanks (n - m)) (length-set slots slot held)
    ∙ sym (set-append_left slots (blanks (n - length slots)) slot held lt)

-- as many are there as are asked for
pub filled : (slots slots' : Row) (end n : ℕ) → slots' ≡ slots ++ blanks (end - length slots)
    → end ≤ n → length slots ≤ n →
    (padded slots' n ≡ padded slots n) × (length slots' ≤ n) × (end ≤ length slots')
    × (length slots ≤ length slots')
filled slots slots' end n e le le' =
    let k : ℕ = end - length slots in
    let long : length slots' ≡ length slots + k = ap length e ∙ more_long slots k in (
      ap (λ z. padded z n) e ∙ padded_more slots k n (omega (arith, le, le')),
      omega (arith, long, le, le'),
      omega (arith, long),
      omega (arith, long),
    )

-- none is missing up to an end that they reach
pub padded_there : (slots : Row) (end : ℕ) → end ≤ length slots → slots ≡ padded slots end
padded_there slots end le =
    let none : 0 ≡ end - length slots = omega (arith, le) in
    sym (append-nil slots) ∙ ap (λ k. slots ++ blanks k) none

pub over_long : (slots mid : Row) (i w : ℕ) → i + w ≤ length slots → length mid ≡ w
    → length (take i slots ++ (mid ++ drop (i + w) slots)) ≡ length slots
over_long slots mid i w le long =
    omega (
      arith,
      le,
      long,
      length-append (take i slots) (mid ++ drop (i + w) slots),
      length-append mid (drop (i + w) slots),
      length-take-le i slots (omega (arith, le)),
      length-drop (i + w) slots,
    )

-- the width of the first row
pub blank_wide : (slots : Row) (w count : ℕ) → length slots ≤ count * w → 0 < count
    → length (slice_index_or (rows_in (padded slots (count * w)) w count) 0 []) ≡ w
blank_wide slots w count few some =
    let all = padded_long slots (count * w) few in
    ap length (row_is (padded slots (count * w)) w count 0 some)
    ∙ row_long (padded slots (count * w)) w 0
    (row_inside w count 0 (length (padded slots (count * w))) (sym all) some)

-- a list of rows that is seen in slots
module _ {slots : Row} {capacity w count : ℕ} {rows : List Row}
    (ok : AreRows slots capacity w count)
    (view : rows_in (padded slots (count * w)) w count ≡ rows) where
  abbrev all_slots : Row
  all_slots = padded slots (count * w)

  all : count * w ≡ length all_slots
  all = sym (padded_long slots (count * w) ok.within)

  pub row_within : {k : ℕ} → k < length rows → k * w + w ≤ count * w
  row_within {k} lt =
      let inside = inside_slots all_slots w count rows view all k lt in omega (arith, inside, all)

  pub row_wide : {k : ℕ} → k < length rows → length (slice_index_or rows k []) ≡ w
  row_wide {k} lt = row_of_view_long all_slots w count rows view all k lt

  -- two rows are equally wide
  pub rows_wide : {j k : ℕ} → j < length rows → k < length rows
      → length (slice_index_or rows j []) ≡ length (slice_index_or rows k [])
  rows_wide lt lt' = row_wide lt ∙ sym (row_wide lt')

  -- the first row is there
  pub first_there : 0 < length rows → w ≤ length slots
  first_there some = ok.first (number_inside all_slots w count rows view all 0 some)

  pub first_row : 0 < length rows → take w slots ≡ slice_index_or rows 0 []
  first_row some =
      sym (padded_start slots w (count * w) (first_there some)) ∙ sym (row_first all_slots w)
      ∙ sym (row_of_view all_slots w count rows view all 0 some)

  pub slot_put_over : (slot : ℕ) (held : Option ℕ) → 0 < length rows
      → slot < length (slice_index_or rows 0 []) →
      rows_in (padded (set slots slot held) (count * w)) w count
      ≡ set rows 0 (set (slice_index_or rows 0 []) slot held)
  slot_put_over slot held some lt =
      let there = first_there some in let wide = row_wide some in
      ap (λ z. rows_in z w count)
      (padded_put slots slot held (count * w) (omega (arith, lt, there, wide)))
      ∙ view_put all_slots w count rows view all slot held some lt

  -- a row is written over, once the slots up to this end are there
  pub row_put_over : {there after : Row} {k capacity' : ℕ} (mid : Row) (end : ℕ)
      → there ≡ padded slots end → k < length rows → k * w + w ≤ end → end ≤ count * w
      → length mid ≡ w → capacity ≤ capacity'
      → after ≡ take (k * w) there ++ (mid ++ drop (k * w + w) there) →
      (rows_in (padded after (count * w)) w count ≡ set rows k mid)
      × AreRows after capacity' w count
  row_put_over {there} {after} {k} mid end is lt le last long more e =
      let one = filled slots there end (count * w) is last ok.within in
      let within = one.1 in let reached = one.2 in let longer = one.3 in
      let inside : k * w + w ≤ length there = omega (arith, le, reached) in
      let same : length after ≡ length there =
      ap length e ∙ over_long there mid (k * w) w inside long in (
        view_over all_slots w count rows view all (padded after (count * w)) mid k lt long
            (padded_over there after mid (k * w) (k * w + w) (count * w) (omega (arith, inside))
            inside same e
            ∙ ap (λ z. take (k * w) z ++ (mid ++ drop (k * w + w) z)) one.0),
        record {
          within = omega (arith, same, within);
          fitting = omega (arith, ok.fitting, more);
          first = λ some. (let first = ok.first some in omega (arith, first, same, longer));
        },
      )

  -- a row that is there
  row_read : (there : Row) (k : ℕ) → padded there (count * w) ≡ all_slots → k < length rows
      → k * w + w ≤ length there → take w (drop (k * w) there) ≡ slice_index_or rows k []
  row_read there k same lt le =
      sym (padded_part there (k * w) w (count * w) le) ∙ ap (λ z. take w (drop (k * w) z)) same
      ∙ sym (row_of_view all_slots w count rows view all k lt)

  -- a row is written over another one, once the slots up to the ends of both are there
  pub row_copied : {there after : Row} {from to capacity' : ℕ} (end : ℕ) → there ≡ padded slots end
      → from < length rows → to < length rows → from * w + w ≤ end → to * w + w ≤ end
      → end ≤ count * w → capacity ≤ capacity'
      → after ≡ take (to * w) there ++ (take w (drop (from * w) there) ++ drop (to * w + w) there) →
      (rows_in (padded after (count * w)) w count ≡ set rows to (slice_index_or rows from []))
      × AreRows after capacity' w count
  row_copied {there} {after} {from} {to} end is lt_from lt_to le_from le_to last more e =
      let one = filled slots there end (count * w) is last ok.within in
      let held = row_read there from one.0 lt_from (omega (arith, le_from, one.2)) in
      let put = row_put_over (take w (drop (from * w) there)) end is lt_to le_to last
      (ap length held ∙ row_wide lt_from) more e in
      (put.0 ∙ ap (λ row. set rows to row) held, put.1)
