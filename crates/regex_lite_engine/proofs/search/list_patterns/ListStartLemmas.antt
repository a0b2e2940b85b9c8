-- The patterns that may start at a position, as starts in the order of their numbers.
use Rattle.regex_lite_engine.proofs.Common.{◌≡◌, ℕ, zero, suc, ◌+◌, ◌^◌, ◌<◌, ◌≤◌, Bool, true}
use Rattle.regex_lite_engine.proofs.Common.{false, ◌&&◌, ◌⊎◌, List, [], ◌∷◌, map, length, get_or}
use Rattle.regex_lite_engine.proofs.Common.{slice_index, sym, refl, ap, ◌∙◌, subst, inl, inr, arith}
use Rattle.regex_lite_engine.proofs.Common.{cases_eq, cases_lt, length-map}
use Rattle.regex_lite_engine.proofs.Common.{length-map-range_with_len, slice_get-get_or}
use Rattle.regex_lite_engine.proofs.Common.{slice_get_within, range_with_len, Text, after}
use Rattle.regex_lite_engine.proofs.Common.{StoredList, table_of_list, is_candidate_at, may_go_on}
use Rattle.regex_lite_engine.proofs.Common.{IsEntry, IsDeadAt, AreStartsAt, IsPrefixIndexOf}
use Rattle.regex_lite_engine.proofs.Common.{start_numbered, PrefixIndex, Start}
use Rattle.std.proofs.lemmas.List.{get_or_default}
use Rattle.std.proofs.lemmas.Option.{get_or_from_slice_get}
use Rattle.regex_lite_engine.specs.Search.Starts.{IsAmong, AreAllStarts, AreFrom}
use Rattle.std.proofs.Common.{cond}
use Rattle.regex_lite_syntax.specs.Prefilter.PrefixIndex.{may_start_at}
use Rattle.std.specs.List.{All, filter}
use Rattle.std.proofs.Math.ListN.{get_or-map}
use Rattle.regex_lite_engine.specs.Graph.Places.{Place}

from_lower : (entries : List ℕ) (a : ℕ) (starts : List Start) → AreFrom entries (a + 1) starts
    → AreFrom entries a starts
from_lower entries a [] w = tt
from_lower entries a (start ∷ starts) (le, is, rest) = (omega (arith, le), is, rest)

in_order : (entries : List ℕ) (test : ℕ → Bool) (a n : ℕ) → a + n ≤ length entries
    → AreFrom entries a (map (start_numbered entries) (filter test (range_with_len a n)))
in_order entries test a zero le = tt
in_order entries test a (suc n) le =
    by_test (test a) (filter test (range_with_len (a + 1) n))
    (in_order entries test (a + 1) n (omega (arith, le)))
  where
    by_test : (b : Bool) (rest : List ℕ)
        → AreFrom entries (a + 1) (map (start_numbered entries) rest)
        → AreFrom entries a (map (start_numbered entries) (cond b (a ∷ rest) rest))
    by_test true rest later =
        let next : a + 1 ≡ suc a = omega arith in (
          omega arith,
          slice_get-get_or entries a 0 (omega (arith, le)),
          subst (λ k. AreFrom entries k (map (start_numbered entries) rest)) next later,
        )
    by_test false rest later = from_lower entries a (map (start_numbered entries) rest) later

among : (entries : List ℕ) (test : ℕ → Bool) (a n number entry : ℕ) → a ≤ number → number < a + n
    → test number ≡ true → slice_index entries number ≡ entry
    → IsAmong number entry (map (start_numbered entries) (filter test (range_with_len a n)))
among entries test a zero number entry low high passes is = absurd (omega (arith, low, high))
among entries test a (suc n) number entry low high passes is = by_place (cases_eq number a)
    (λ above. among entries test (a + 1) n number entry above (omega (arith, high)) passes is)
  where
    rest : List ℕ
    rest = filter test (range_with_len (a + 1) n)

    later : (b : Bool) → IsAmong number entry (map (start_numbered entries) rest)
        → IsAmong number entry (map (start_numbered entries) (cond b (a ∷ rest) rest))
    later true w = inr w
    later false w = w

    by_place : (number ≡ a) ⊎ (number ≡ a → ⊥)
        → (a + 1 ≤ number → IsAmong number entry (map (start_numbered entries) rest))
        → IsAmong number entry (map (start_numbered entries) (cond (test a) (a ∷ rest) rest))
    by_place (inl same) others =
        subst (λ b. IsAmong number entry (map (start_numbered entries) (cond b (a ∷ rest) rest)))
        (sym (ap test (sym same) ∙ passes))
        (inl (same, sym is ∙ ap (slice_index entries) same))
    by_place (inr apart) others = later (test a) (others (above (cases_lt a number)))
      where
        above : (a < number) ⊎ (number ≤ a) → a + 1 ≤ number
        above (inl lt) = omega (arith, lt)
        above (inr ge) = absurd (apart (omega (arith, low, ge)))

-- the numbers that pass are below the end
pub all_below : (test : ℕ → Bool) (a n m : ℕ) → a + n ≤ m
    → All (λ number. number < m) (filter test (range_with_len a n))
all_below test a zero m le k d lt = absurd (omega (arith, lt))
all_below test a (suc n) m le k d lt =
    by_test (test a) (filter test (range_with_len (a + 1) n))
    (all_below test (a + 1) n m (omega (arith, le))) k d lt
  where
    by_test : (b : Bool) (rest : List ℕ) → All (λ number. number < m) rest
        → All (λ number. number < m) (cond b (a ∷ rest) rest)
    by_test true rest all zero d lt = omega (arith, le)
    by_test true rest all (suc k) d lt = all k d (omega (arith, lt))
    by_test false rest all k d lt = all k d lt

pub places_inside : (entries numbers : List ℕ) (end : ℕ) → All (λ entry. entry < end) entries
    → All (λ number. number < length entries) numbers
    → All (λ (start : Start). start.place < end) (map (start_numbered entries) numbers)
places_inside entries numbers end all inside k d lt =
    let mapped = length-map numbers (start_numbered entries) in
    let within : k < length numbers = omega (arith, lt, mapped) in
    let is : get_or (map (start_numbered entries) numbers) k d
    ≡ start_numbered entries (get_or numbers k 0)
    = get_or_default (map (start_numbered entries) numbers) k d (start_numbered entries 0) lt
    ∙ get_or-map (start_numbered entries) numbers k 0 in
    subst (λ (start : Start). start.place < end) (sym is)
    (all (get_or numbers k 0) 0 (inside k 0 within))

-- the patterns that pass a test may start where each other is dead
pub tested_start : (table : List (Place ℕ)) (haystack : Text) (entries : List ℕ) (p : ℕ)
    (test : ℕ → Bool)
    → ((number entry : ℕ) → IsEntry entries number entry → test number ≡ false
    → IsDeadAt table haystack entry p) → (numbers : List ℕ)
    → numbers ≡ filter test (range_with_len 0 (length entries))
    → AreStartsAt table haystack entries p (map (start_numbered entries) numbers)
tested_start table haystack entries p test dead numbers listed =
    subst (λ z. AreStartsAt table haystack entries p
    (map (start_numbered entries) z)) (sym listed) (record {
      in_order = in_order entries test 0 (length entries) (omega arith);
      each = λ number entry is. by_test number entry is (test number) refl;
    })
  where
    by_test : (number entry : ℕ) → IsEntry entries number entry → (b : Bool) → test number ≡ b
        → IsAmong number entry
        (map (start_numbered entries) (filter test (range_with_len 0 (length entries))))
        ⊎ IsDeadAt table haystack entry p
    by_test number entry is true may =
        let within = slice_get_within entries number entry is in
        inl (among entries test 0 (length entries) number entry (omega arith)
        (omega (arith, within)) may (get_or_from_slice_get entries number entry 0 is))
    by_test number entry is false off = inr (dead number entry is off)

pub listed_start : (table : List (Place ℕ)) (haystack : Text) (entries : List ℕ)
    (prefixes : PrefixIndex) → IsPrefixIndexOf table entries prefixes → (p : ℕ) (numbers : List ℕ)
    → numbers ≡ filter (is_candidate_at prefixes haystack p) (range_with_len 0 (length entries))
    → AreStartsAt table haystack entries p (map (start_numbered entries) numbers)
listed_start table haystack entries prefixes w p numbers listed =
    tested_start table haystack entries p (is_candidate_at prefixes haystack p)
    (λ number entry is off. by_part number entry is (may_start_at prefixes haystack p number)
    (may_go_on prefixes.third_masks (after haystack (suc (suc p))) number) refl refl off) numbers
    listed
  where
    by_part : (number entry : ℕ) → IsEntry entries number entry → (a b : Bool)
        → may_start_at prefixes haystack p number ≡ a
        → may_go_on prefixes.third_masks (after haystack (suc (suc p))) number ≡ b
        → (a && b) ≡ false → IsDeadAt table haystack entry p
    by_part number entry is false b by_two by_third off = w.each haystack p number entry is by_two
    by_part number entry is true false by_two by_third off =
        w.third haystack p number entry is by_third
    by_part number entry is true true by_two by_third off = absurd cc

filter_all : (numbers : List ℕ) → filter (λ _. true) numbers ≡ numbers
filter_all [] = refl
filter_all (number ∷ numbers) = ap (λ rest. number ∷ rest) (filter_all numbers)

-- each of the numbers below the end is
pub all_inside : (n : ℕ) → All (λ number. number < n) (range_with_len 0 n)
all_inside n = subst (All (λ number. number < n)) (filter_all (range_with_len 0 n))
    (all_below (λ _. true) 0 n n (omega arith))

-- wherever a match starts, it does by one of all starts
pub starts_at : {table : List (Place ℕ)} {entries : List ℕ} {starts : List Start}
    → AreAllStarts table entries starts → (haystack : Text) (p : ℕ)
    → AreStartsAt table haystack entries p starts
starts_at all haystack p =
    record { in_order = all.in_order; each = λ number entry is. inl (all.each number entry is) }

-- all patterns may start anywhere
all_start : (table : List (Place ℕ)) (entries : List ℕ)
    → All (λ entry. entry < length table) entries → length entries < 2 ^ 32
    → AreAllStarts table entries
    (map (start_numbered entries) (range_with_len 0 (length entries)))
all_start table entries inside few = record {
  in_order =
      subst (λ z. AreFrom entries 0 (map (start_numbered entries) z)) same
      (in_order entries (λ _. true) 0 n (omega arith));
  each = λ number entry is.
      let within = slice_get_within entries number entry is in
      subst (λ z. IsAmong number entry (map (start_numbered entries) z)) same
      (among entries (λ _. true) 0 n number entry (omega arith) (omega (arith, within)) refl
      (get_or_from_slice_get entries number entry 0 is));
  inside = places_inside entries numbers (length table) inside
      (subst (All (λ number. number < n)) same (all_below (λ _. true) 0 n n (omega arith)));
  few = omega (arith, all);
  countable = omega (arith, all, few);
}
  where
    n : ℕ
    n = length entries

    numbers : List ℕ
    numbers = range_with_len 0 n

    same : filter (λ _. true) numbers ≡ numbers
    same = filter_all numbers

    all : length (map (start_numbered entries) numbers) ≡ n
    all = length-map-range_with_len (start_numbered entries) 0 n

pub all_of_entries : (list : StoredList) (entries : List ℕ) → entries ≡ list.entries
    → All (λ entry. entry < length (table_of_list list)) entries → length entries < 2 ^ 32
    → AreAllStarts (table_of_list list) list.entries
    (map (start_numbered list.entries) (range_with_len 0 (length list.entries)))
all_of_entries list entries same inside few =
    let size = ap length same in
    all_start (table_of_list list) list.entries
    (subst (All (λ entry. entry < length (table_of_list list))) same inside)
    (omega (arith, size, few))
