-- Rows that lie one after the other.
use Rattle.regex_lite_engine.proofs.Common.{◌≡◌, ℕ, zero, suc, ◌+◌, ◌-◌, ◌*◌, ◌<◌, ◌≤◌, ◌⊎◌, List}
use Rattle.regex_lite_engine.proofs.Common.{[], ◌∷◌, ◌++◌, map, length, take, drop, set}
use Rattle.regex_lite_engine.proofs.Common.{slice_index_or, Option, sym, refl, ap, ◌∙◌, subst, inl}
use Rattle.regex_lite_engine.proofs.Common.{inr, arith, length-drop, mul-le-mul_right, suc-mul}
use Rattle.regex_lite_engine.proofs.Common.{take-append_seam, cases_eq, cases_lt, length-take-le}
use Rattle.regex_lite_engine.proofs.Common.{take-take, get_or-map-range_with_len}
use Rattle.regex_lite_engine.proofs.Common.{length-map-range_with_len, range_with_len, Row}
use Rattle.std.proofs.lemmas.List.{drop-append-le, take-append-le, drop-take, drop-set-lt}
use Rattle.std.proofs.Math.Seq.{take-set-lt, drop-append-add}
use Rattle.regex_lite_engine.specs.Pikevm.Cells.{row_at, rows_in}

-- lists that are determined by the numbers of what they hold
pub listed_alike : {X : Type 0} (f g : ℕ → X) (a n : ℕ) → ((k : ℕ) → a ≤ k → k < a + n → f k ≡ g k)
    → map f (range_with_len a n) ≡ map g (range_with_len a n)
listed_alike f g a zero alike = refl
listed_alike f g a (suc n) alike =
    let first : f a ≡ g a = alike a (omega arith) (omega arith) in
    let more =
    listed_alike f g (a + 1) n (λ k le lt. alike k (omega (arith, le)) (omega (arith, lt))) in
    cc

pub listed_set : {X : Type 0} (f g : ℕ → X) (a n i : ℕ) (x : X) → i < n → g (a + i) ≡ x
    → ((k : ℕ) → (k ≡ a + i → ⊥) → g k ≡ f k) →
    map g (range_with_len a n) ≡ set (map f (range_with_len a n)) i x
listed_set f g a zero i x lt at other = absurd (omega (arith, lt))
listed_set f g a (suc n) zero x lt at other =
    let first : g a ≡ x = ap g (omega arith) ∙ at in
    let more = listed_alike g f (a + 1) n (λ k le lt. other k (λ e. omega (arith, e, le))) in
    cc
listed_set f g a (suc n) (suc i) x lt at other =
    let first : g a ≡ f a = other a (λ e. omega (arith, e)) in
    let here : a + 1 + i ≡ a + suc i = omega arith in
    let more = listed_set f g (a + 1) n i x (omega (arith, lt)) (ap g here ∙ at)
    (λ k d. other k (λ e. d (omega (arith, e)))) in
    cc

module _ (slots mid : Row) (w n : ℕ) (long : length mid ≡ w)
    (short : n * w + w ≤ length slots) where
  abbrev written : Row
  written = take (n * w) slots ++ (mid ++ drop (n * w + length mid) slots)

  before_it : length (take (n * w) slots) ≡ n * w
  before_it = length-take-le (n * w) slots (omega (arith, short))

  -- the row that is written
  written_row : row_at written w n ≡ mid
  written_row =
      ap (take w) (subst (λ z. drop z written ≡ mid ++ drop (n * w + length mid) slots)
      (omega (arith, before_it))
      (drop-append-add (take (n * w) slots) (mid ++ drop (n * w + length mid) slots) 0))
      ∙ ap (λ z. take z (mid ++ drop (n * w + length mid) slots)) (sym long)
      ∙ take-append_seam mid (drop (n * w + length mid) slots)

  -- a row before it
  row_before : (k : ℕ) → k < n → row_at written w k ≡ row_at slots w k
  row_before k lt =
      let room : suc k * w ≤ n * w = mul-le-mul_right w (omega (arith, lt)) in
      let later : k * w + w ≤ n * w = omega (arith, room, suc-mul k w) in
      let cut : n * w ≡ k * w + (n * w - k * w) = omega (arith, later) in
      let rest = mid ++ drop (n * w + length mid) slots in
      ap (take w)
      (drop-append-le (k * w) (take (n * w) slots) rest (omega (arith, before_it, later)))
      ∙ take-append-le w (drop (k * w) (take (n * w) slots)) rest
      (omega (arith, before_it, later, length-drop (k * w) (take (n * w) slots)))
      ∙ ap (λ m. take w (drop (k * w) (take m slots))) cut
      ∙ ap (take w) (drop-take (k * w) (n * w - k * w) slots)
      ∙ take-take w (n * w - k * w) (drop (k * w) slots) (omega (arith, later))

  drop_more : (i j : ℕ) (xs : Row) → drop i (drop j xs) ≡ drop (j + i) xs
  drop_more i zero xs = ap (λ z. drop z xs) (omega arith)
  drop_more i (suc j) [] = drop_none i ∙ sym (drop_none (suc j + i))
    where
      drop_none : (i : ℕ) → ◌≡◌ {A = Row} (drop i []) []
      drop_none zero = refl
      drop_none (suc i) = refl
  drop_more i (suc j) (x ∷ xs) =
      let same : suc (j + i) ≡ suc j + i = omega arith in
      drop_more i j xs ∙ ap (λ z. drop z (x ∷ xs)) same

  -- a row after it
  row_after : (k : ℕ) → n < k → row_at written w k ≡ row_at slots w k
  row_after k lt =
      let room : suc n * w ≤ k * w = mul-le-mul_right w (omega (arith, lt)) in
      let later : n * w + w ≤ k * w = omega (arith, room, suc-mul n w) in
      let rest = drop (n * w + length mid) slots in
      let past : ℕ = k * w - (n * w + w) in
      let split : k * w ≡ length (take (n * w) slots) + (length mid + past) =
      omega (arith, before_it, long, later) in
      let all : k * w ≡ n * w + length mid + past = omega (arith, long, later) in
      ap (take w)
      (ap (λ z. drop z written) split
      ∙ drop-append-add (take (n * w) slots) (mid ++ rest) (length mid + past)
      ∙ drop-append-add mid rest past
      ∙ drop_more past (n * w + length mid) slots
      ∙ ap (λ z. drop z slots) (sym all))

  pub rows_written : (count : ℕ) → n < count
      → rows_in written w count ≡ set (rows_in slots w count) n mid
  rows_written count inside =
      listed_set (row_at slots w) (row_at written w) 0 count n mid inside
      (ap (row_at written w) (omega arith) ∙ written_row)
      (λ k other. by_order k other (cases_lt k n))
    where
      by_order : (k : ℕ) → (k ≡ 0 + n → ⊥) → (k < n) ⊎ (n ≤ k)
          → row_at written w k ≡ row_at slots w k
      by_order k other (inl lt) = row_before k lt
      by_order k other (inr le) = row_after k (omega_apart k n other le)
        where
          omega_apart : (k n : ℕ) → (k ≡ 0 + n → ⊥) → n ≤ k → n < k
          omega_apart k n other le = go (cases_eq k n)
            where
              go : (k ≡ n) ⊎ (k ≡ n → ⊥) → n < k
              go (inl e) = absurd (other (omega (arith, e)))
              go (inr d) = grind arith

-- what row k is
pub row_is : (slots : Row) (w count k : ℕ) → k < count
    → slice_index_or (rows_in slots w count) k [] ≡ row_at slots w k
row_is slots w count k lt =
    get_or-map-range_with_len (row_at slots w) 0 count k k [] lt (omega arith)

pub row_long : (slots : Row) (w k : ℕ) → k * w + w ≤ length slots → length (row_at slots w k) ≡ w
row_long slots w k short =
    length-take-le w (drop (k * w) slots) (omega (arith, short, length-drop (k * w) slots))

-- a row of these is inside
pub row_inside : (w count k : ℕ) (size : ℕ) → count * w ≡ size → k < count → k * w + w ≤ size
row_inside w count k size all lt =
    let room : suc k * w ≤ count * w = mul-le-mul_right w (omega (arith, lt)) in
    omega (arith, room, suc-mul k w, all)

pub row_first : (slots : Row) (w : ℕ) → row_at slots w 0 ≡ take w slots
row_first slots w = let none : 0 * w ≡ 0 = omega arith in ap (λ z. take w (drop z slots)) none

-- a slot of the first row
pub slot_put : (slots : Row) (w count slot : ℕ) (held : Option ℕ) → 0 < count → slot < w →
    rows_in (set slots slot held) w count
    ≡ set (rows_in slots w count) 0 (set (row_at slots w 0) slot held)
slot_put slots w count slot held some lt =
    listed_set (row_at slots w) (row_at (set slots slot held) w) 0 count 0
    (set (row_at slots w 0) slot held) some
    (ap (row_at (set slots slot held) w) (omega arith) ∙ row_first (set slots slot held) w
    ∙ take-set-lt w slots slot held lt ∙ ap (λ row. set row slot held) (sym (row_first slots w)))
    (λ k other. later k other)
  where
    later : (k : ℕ) → (k ≡ 0 + 0 → ⊥) → row_at (set slots slot held) w k ≡ row_at slots w k
    later zero other = absurd (other (omega arith))
    later (suc k) other =
        ap (take w) (drop-set-lt (suc k * w) slots slot held (omega (arith, lt, suc-mul k w)))

-- a row is written over row n
pub row_over : (slots slots' mid : Row) (w count n : ℕ) → count * w ≡ length slots → n < count
    → length mid ≡ w →
    slots' ≡ take (n * w) slots ++ (mid ++ drop (n * w + w) slots)
    → rows_in slots' w count ≡ set (rows_in slots w count) n mid
row_over slots slots' mid w count n all lt long e =
    ap (λ z. rows_in z w count)
    (e ∙ ap (λ z. take (n * w) slots ++ (mid ++ drop (n * w + z) slots)) (sym long))
    ∙ rows_written slots mid w n long (row_inside w count n (length slots) all lt) count lt

pub count_is : (slots : Row) (w count : ℕ) → length (rows_in slots w count) ≡ count
count_is slots w count = length-map-range_with_len (row_at slots w) 0 count

-- the same of rows that are seen as a list
module _ (slots : Row) (w count : ℕ) (rows : List Row) (view : rows_in slots w count ≡ rows)
    (all : count * w ≡ length slots) where
  pub number_inside : (k : ℕ) → k < length rows → k < count
  number_inside k lt = omega (arith, lt, ap length view, count_is slots w count)

  pub inside_slots : (k : ℕ) → k < length rows → k * w + w ≤ length slots
  inside_slots k lt = row_inside w count k (length slots) all (number_inside k lt)

  pub row_of_view : (k : ℕ) → k < length rows → slice_index_or rows k [] ≡ row_at slots w k
  row_of_view k lt =
      ap (λ z. slice_index_or z k []) (sym view) ∙ row_is slots w count k (number_inside k lt)

  pub row_of_view_long : (k : ℕ) → k < length rows → length (slice_index_or rows k []) ≡ w
  row_of_view_long k lt = ap length (row_of_view k lt) ∙ row_long slots w k (inside_slots k lt)

  pub view_over : (slots' mid : Row) (n : ℕ) → n < length rows → length mid ≡ w
      → slots' ≡ take (n * w) slots ++ (mid ++ drop (n * w + w) slots) →
      rows_in slots' w count ≡ set rows n mid
  view_over slots' mid n lt long e =
      row_over slots slots' mid w count n all (number_inside n lt) long e
      ∙ ap (λ z. set z n mid) view

  pub view_put : (slot : ℕ) (held : Option ℕ) → 0 < length rows
      → slot < length (slice_index_or rows 0 []) →
      rows_in (set slots slot held) w count ≡ set rows 0 (set (slice_index_or rows 0 []) slot held)
  view_put slot held some lt =
      slot_put slots w count slot held (number_inside 0 some)
      (omega (arith, lt, row_of_view_long 0 some))
      ∙ ap (λ z. set z 0 (set (row_at slots w 0) slot held)) view
      ∙ ap (λ z. set rows 0 (set z slot held)) (sym (row_of_view 0 some))

-- different rows don't overlap
pub rows_apart : (i j w : ℕ) → (i ≡ j → ⊥) → (i * w + w ≤ j * w) ⊎ (j * w + w ≤ i * w)
rows_apart i j w apart = by_order (cases_lt i j)
  where
    up_to : (i j : ℕ) → i < j → i * w + w ≤ j * w
    up_to i j lt =
        let room : suc i * w ≤ j * w = mul-le-mul_right w (omega (arith, lt)) in
        omega (arith, room, suc-mul i w)

    by_order : (i < j) ⊎ (j ≤ i) → (i * w + w ≤ j * w) ⊎ (j * w + w ≤ i * w)
    by_order (inl lt) = inl (up_to i j lt)
    by_order (inr le) = inr (up_to j i (omega (arith, le, apart)))
