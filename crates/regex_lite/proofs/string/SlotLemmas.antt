-- Slots, and the spans that they hold.
use Rattle.regex_lite.proofs.Common.{◌≡◌, ℕ, zero, suc, ◌+◌, ◌*◌, ◌<◌, ◌≤◌, max, List, [], ◌∷◌}
use Rattle.regex_lite.proofs.Common.{◌++◌, length, get_or, take, drop, replicate, slice_get, Some}
use Rattle.regex_lite.proofs.Common.{None, Option, sym, refl, ap, ◌∙◌, arith, length-take-le}
use Rattle.regex_lite.proofs.Common.{option_zip, StoredGroups, spans_of, resized, span_at}
use Rattle.regex_lite.proofs.Common.{kept_slots, most_groups}
use Rattle.std.proofs.Common.{◌/◌, min}
use Rattle.std.proofs.lemmas.List.{length-append, length-replicate, take-append-le}
use Rattle.std.specs.Option.{option_flatten}
use Rattle.std.proofs.lemmas.Option.{slice_get_past}
use Rattle.regex_lite_syntax.proofs.OptionLemmas.{same_some}

none_after : (start : Option ℕ) → None ≡ option_zip {U = ℕ} start None
none_after None = refl
none_after (Some at) = refl

-- group k's span is that of its two slots
pub span_of_slots : (slots : List (Option ℕ)) (k : ℕ)
    → option_zip (get_or slots (2 * k) None) (get_or slots (2 * k + 1) None)
    ≡ span_at (spans_of slots) k
span_of_slots [] zero = refl
span_of_slots [] (suc k) = refl
span_of_slots (start ∷ []) zero = sym (none_after start)
span_of_slots (start ∷ []) (suc k) =
    let a : 2 * suc k ≡ suc (suc (2 * k)) = omega arith in
    rw (a) refl
span_of_slots (start ∷ end ∷ slots) zero = refl
span_of_slots (start ∷ end ∷ slots) (suc k) =
    let a : 2 * suc k ≡ suc (suc (2 * k)) = omega arith in
    let b : suc (suc (2 * k)) + 1 ≡ suc (suc (2 * k + 1)) = omega arith in
    rw (a, b) (span_of_slots slots k)

-- there are half as many spans
pub half : (slots : List (Option ℕ)) → length (spans_of slots) ≡ length slots / 2
half [] = refl
half (start ∷ []) = refl
half (start ∷ end ∷ slots) =
    omega (arith, half slots)

-- none is after them
pub no_span : (slots : List (Option ℕ)) (k : ℕ) → length slots / 2 ≤ k
    → None ≡ span_at (spans_of slots) k
no_span slots k beyond =
    sym (ap option_flatten (slice_get_past (spans_of slots) k (omega (arith, half slots, beyond))))

-- slots that hold nothing hold no span
pub no_spans : (n : ℕ) → spans_of (replicate (2 * n) None) ≡ replicate n None
no_spans zero = refl
no_spans (suc n) =
    let a : 2 * suc n ≡ suc (suc (2 * n)) = omega arith in
    rw (a) (ap (λ spans. None ∷ spans) (no_spans n))

-- two for each group of the pattern with the most, and for one group at least
pub room_for_most : (most kept : ℕ) → kept ≡ kept_slots most → max kept 2 ≡ 2 * max 1 most
room_for_most zero kept is = omega (arith, is)
room_for_most (suc zero) kept is = omega (arith, is)
room_for_most (suc (suc n)) kept is = omega (arith, is)

few_of_many : {A : Type 0} (n m : ℕ) (x : A) → n ≤ m → take n (replicate m x) ≡ replicate n x
few_of_many zero m x le = refl
few_of_many (suc n) zero x le = absurd (omega (arith, le))
few_of_many (suc n) (suc m) x le = ap (λ xs. x ∷ xs) (few_of_many n m x (omega (arith, le)))

-- slots that are followed by empty ones hold their spans, and none after them
pub spans_with_none : (slots : List (Option ℕ)) (n m count more : ℕ) → n ≤ m
    → count ≡ min (length slots) (2 * n) → more + count ≡ 2 * n
    → spans_of (take count slots ++ replicate more None)
    ≡ take n (spans_of slots ++ replicate m None)
spans_with_none slots zero m count more le few all =
    let a : count ≡ 0 = omega (arith, all) in
    let b : more ≡ 0 = omega (arith, all) in
    rw (a, b) refl
spans_with_none [] (suc n) m count more le few all =
    let a : count ≡ 0 = omega (arith, few) in
    let b : more ≡ 2 * suc n = omega (arith, few, all) in
    rw (a, b) (no_spans (suc n) ∙ sym (few_of_many (suc n) m None le))
spans_with_none (start ∷ []) (suc n) m count more le few all =
    let a : count ≡ 1 = omega (arith, few) in
    let b : more ≡ suc (2 * n) = omega (arith, few, all) in
    rw (a, b) (ap (λ span. span ∷ spans_of (replicate (2 * n) None)) (sym (none_after start))
    ∙ ap (λ spans. None ∷ spans) (no_spans n) ∙ sym (few_of_many (suc n) m None le))
spans_with_none (start ∷ end ∷ slots) (suc n) m (suc (suc count)) more le few all =
    ap (λ spans. option_zip start end ∷ spans)
    (spans_with_none slots n m count more (omega (arith, le)) (omega (arith, few))
    (omega (arith, all)))
spans_with_none (start ∷ end ∷ slots) (suc n) m zero more le few all =
    absurd (omega (arith, few))
spans_with_none (start ∷ end ∷ slots) (suc n) m (suc zero) more le few all =
    absurd (omega (arith, few))

-- where no more are asked for than there are, they are the first
pub resized_few : (n : ℕ) (spans : List (Option (ℕ × ℕ))) → n ≤ length spans
    → resized n spans ≡ take n spans
resized_few n spans le = take-append-le n spans (replicate n None) le

-- there are as many as were asked for
pub resized_length : (n : ℕ) (spans : List (Option (ℕ × ℕ))) → length (resized n spans) ≡ n
resized_length n spans =
    let none : List (Option (ℕ × ℕ)) = replicate n None in
    let some = length-replicate {A = Option (ℕ × ℕ)} n None in
    length-take-le n (spans ++ none) (omega (arith, length-append spans none, some))

-- none are kept for the whole match alone
pub none_kept : (groups : ℕ) → 0 ≡ kept_slots groups → 0 < groups → 2 ≡ 2 * groups
none_kept zero none some = absurd (omega (arith, some))
none_kept (suc zero) none some = refl
none_kept (suc (suc n)) none some = absurd (omega (arith, none))

-- where some are kept, they are two for each group
pub some_kept : (groups more : ℕ) → suc more ≡ kept_slots groups → suc more ≡ 2 * groups
some_kept zero more some = some
some_kept (suc zero) more some = absurd (omega (arith, some))
some_kept (suc (suc n)) more some = some

drop_at : {A : Type 0} (xs : List A) (k : ℕ) (x : A) → slice_get xs k ≡ Some x
    → drop k xs ≡ x ∷ drop (k + 1) xs
drop_at [] k x there = absurd cc
drop_at (x ∷ xs) zero own there = ap (λ y. y ∷ xs) (same_some there)
drop_at (x ∷ xs) (suc k) own there =
    let next : suc k + 1 ≡ suc (k + 1) = omega arith in
    rw (next) (drop_at xs k own there)

-- the slots of one more pattern, with those that are left
pub most_on : (all : List StoredGroups) (k : ℕ) (own : StoredGroups) (most next slots : ℕ)
    → slice_get all k ≡ Some own → slots ≡ 2 * length own.capture_names → next ≡ max most slots
    → max next (2 * most_groups (drop (k + 1) all)) ≡ max most (2 * most_groups (drop k all))
most_on all k own most next slots there two is =
    let rest = most_groups (drop (k + 1) all) in
    omega (arith, ap most_groups (drop_at all k own there), two, is)
