-- What is found, by offsets: its match and its groups lie in the haystack.
use Rattle.regex_lite.proofs.Common.{◌≡◌, ℕ, zero, suc, ◌+◌, ◌*◌, ◌<◌, ◌≤◌, List, [], ◌∷◌, length}
use Rattle.regex_lite.proofs.Common.{take, IfSome, slice_get, Some, None, IsUtf8, Option}
use Rattle.regex_lite.proofs.Common.{option_map, chars, refl, ap, ◌∙◌, arith, filter_map}
use Rattle.regex_lite.proofs.Common.{option_zip, Text, Tree, captures_len, static_captures_len}
use Rattle.regex_lite.proofs.Common.{Found, span, offset, IsPatternTree, LiesIn}
use Rattle.regex_lite.proofs.Common.{text_at, spans_of, span_at, offsets, spans_from}
use Rattle.regex_lite_engine.specs.Search.Answer.{IsOfWay}
use Rattle.regex_lite_engine.specs.SearchLaws.{HasGroupsInside}
use Rattle.regex_lite_engine.specs.Search.Marks.{Marks, taking_part}
use Rattle.regex_lite_engine.proofs.OffsetLemmas.{boundary_at, offset_grows}
use Rattle.regex_lite_engine.proofs.laws.PatternTreeLemmas.{regular_tree, numbered_tree}
use Rattle.regex_lite_engine.proofs.laws.groups.SpanLemmas.{groups_inside}
use Rattle.regex_lite_engine.proofs.laws.groups.TakingPartLemmas.{enough_take_part}
use Rattle.regex_lite.specs.Laws.{LiesInside}
use Rattle.regex_lite.proofs.string.LawfulLemmas.{way_within}

-- two positions in order lie in the haystack
pub positions_lie : (bytes : List ℕ) (i j : ℕ) → IsUtf8 bytes → i ≤ j → j ≤ length (chars bytes)
    → LiesIn bytes (offsets (chars bytes) (i, j))
positions_lie bytes i j utf8 le inside =
    let starts =
    boundary_at bytes i (offset (chars bytes) i) utf8 (omega (arith, le, inside), refl) in
    let ends = boundary_at bytes j (offset (chars bytes) j) utf8 (inside, refl) in
    record {
      ordered = offset_grows (chars bytes) i j le;
      inside = ends.0;
      starts_cleanly = starts;
      ends_cleanly = ends;
    }

zipped : (haystack : Text) (a b : Option ℕ)
    → option_zip (option_map (offset haystack) a) (option_map (offset haystack) b)
    ≡ option_map (offsets haystack) (option_zip a b)
zipped haystack None b = refl
zipped haystack (Some a) None = refl
zipped haystack (Some a) (Some b) = refl

-- the spans that slots hold are those of the marks
pub slots_reported : (haystack : Text) (marks : Marks) (slots : List (Option ℕ))
    (first count at : ℕ) → at ≡ 2 * first → length slots ≡ 2 * count
    → ((k : ℕ) (slot : Option ℕ) → slice_get slots k ≡ Some slot
    → slot ≡ option_map (offset haystack) (marks (at + k)))
    → spans_of slots ≡ spans_from haystack marks first count
slots_reported haystack marks [] first zero at start len reported = refl
slots_reported haystack marks [] first (suc count) at start len reported = absurd
    (omega (arith, len))
slots_reported haystack marks (slot ∷ []) first zero at start len reported = absurd
    (omega (arith, len))
slots_reported haystack marks (slot ∷ []) first (suc count) at start len reported =
    absurd (omega (arith, len))
slots_reported haystack marks (from ∷ to ∷ slots) first zero at start len reported =
    absurd (omega (arith, len))
slots_reported haystack marks (from ∷ to ∷ slots) first (suc count) at start len reported =
    let a : at + 0 ≡ 2 * first = omega (arith, start) in
    let b : at + 1 ≡ 2 * first + 1 = omega (arith, start) in
    let start_is = reported 0 from refl ∙ ap (λ n. option_map (offset haystack) (marks n)) a in
    let end_is = reported 1 to refl ∙ ap (λ n. option_map (offset haystack) (marks n)) b in
    let later = slots_reported haystack marks slots (suc first) count (at + 2)
    (omega (arith, start)) (omega (arith, len)) (λ k slot is. reported (suc (suc k)) slot is
    ∙ ap (λ n. option_map (offset haystack) (marks n)) (omega arith)) in
    ap (λ own. own ∷ spans_of slots)
    (rw (start_is, end_is) (zipped haystack (marks (2 * first)) (marks (2 * first + 1))))
    ∙ ap (λ rest. option_map (offsets haystack) (span marks first) ∷ rest) later

-- what holds of each span holds of those that are listed
listed : (haystack : Text) (marks : Marks) (P : ℕ × ℕ → Type 0)
    → ((index : ℕ) → IfSome (option_map (offsets haystack) (span marks index)) P)
    → (first count k : ℕ) → IfSome (span_at (spans_from haystack marks first count) k) P
listed haystack marks P each first zero k = tt
listed haystack marks P each first (suc count) zero = each first
listed haystack marks P each first (suc count) (suc k) =
    listed haystack marks P each (suc first) count k

-- there are as many as were asked for
pub length_spans : (haystack : Text) (marks : Marks) (first count : ℕ)
    → length (spans_from haystack marks first count) ≡ count
length_spans haystack marks first zero = refl
length_spans haystack marks first (suc count) =
    omega (arith, length_spans haystack marks (suc first) count)

-- each group that took part has a text
texts_reported : (bytes : List ℕ) (marks : Marks) (first count : ℕ)
    → taking_part marks first count
    ≡ length (filter_map (option_map (text_at bytes)) (spans_from (chars bytes) marks first count))
texts_reported bytes marks first zero = refl
texts_reported bytes marks first (suc count) =
    each (span marks first) refl (texts_reported bytes marks (suc first) count)
  where
    each : (own : Option (ℕ × ℕ)) → span marks first ≡ own
        → taking_part marks (suc first) count
        ≡ length (filter_map (option_map (text_at bytes))
        (spans_from (chars bytes) marks (suc first) count))
        → taking_part marks first (suc count)
        ≡ length (filter_map (option_map (text_at bytes))
        (spans_from (chars bytes) marks first (suc count)))
    each None is more = rw (is) (omega (arith, more))
    each (Some positions) is more = rw (is) (omega (arith, more))

-- group 0 is the match
pub group_0 : (haystack : Text) (tree : Tree) (found : Found) (count : ℕ)
    → IsPatternTree tree → IsOfWay tree haystack found → 0 < count
    → span_at (spans_from haystack found.marks 0 count) 0
    ≡ Some (offsets haystack (found.start, found.end))
group_0 haystack tree found zero given is some = absurd (omega (arith, some))
group_0 haystack tree found (suc count) given is some =
    let inner = groups_inside tree haystack found (regular_tree tree given) is in
    ap (option_map (offsets haystack)) inner.whole

-- the first of this many spans are the spans of the first groups
pub first_reported : (haystack : Text) (marks : Marks) (n first count : ℕ)
    → take n (spans_from haystack marks first count)
    ≡ spans_from haystack marks first (length (take n (spans_from haystack marks first count)))
first_reported haystack marks zero first count = refl
first_reported haystack marks (suc n) first zero = refl
first_reported haystack marks (suc n) first (suc count) =
    ap (λ spans. option_map (offsets haystack) (span marks first) ∷ spans)
    (first_reported haystack marks n (suc first) count)

-- what is found in a haystack by a regex
module _ (bytes : List ℕ) (utf8 : IsUtf8 bytes) (tree : Tree) (given : IsPatternTree tree)
    (found : Found) (is : IsOfWay tree (chars bytes) found) where
  within : (found.start ≤ found.end) × (found.end ≤ length (chars bytes))
  within = way_within tree (chars bytes) found given is

  inner : HasGroupsInside found
  inner = groups_inside tree (chars bytes) found (regular_tree tree given) is

  -- it lies there
  pub found_lies : LiesIn bytes (offsets (chars bytes) (found.start, found.end))
  found_lies =
      positions_lie bytes found.start found.end utf8 within.0 within.1

  abbrev whole : ℕ × ℕ
  whole = offsets (chars bytes) (found.start, found.end)

  group_lies : (k : ℕ)
      → IfSome (option_map (offsets (chars bytes)) (span found.marks k)) (LiesInside bytes whole)
  group_lies k = each (span found.marks k) refl
    where
      each : (own : Option (ℕ × ℕ)) → span found.marks k ≡ own
          → IfSome (option_map (offsets (chars bytes)) own) (LiesInside bytes whole)
      each None e = tt
      each (Some (from, to)) e =
          let own = inner.inside k from to e in
          record {
            starts_inside = offset_grows (chars bytes) found.start from own.0;
            ends_inside = offset_grows (chars bytes) to found.end own.2;
            lies_in =
                positions_lie bytes from to utf8 own.1 (omega (arith, own.2, within.1));
          }

  -- so do its groups, and inside it
  pub groups_lie_inside : (count k : ℕ)
      → IfSome (span_at (spans_from (chars bytes) found.marks 0 count) k) (LiesInside bytes whole)
  groups_lie_inside count k =
      listed (chars bytes) found.marks (LiesInside bytes whole) group_lies 0 count k

  pub groups_lie : (count k : ℕ)
      → IfSome (span_at (spans_from (chars bytes) found.marks 0 count) k) (LiesIn bytes)
  groups_lie count k =
      each (span_at (spans_from (chars bytes) found.marks 0 count) k) (groups_lie_inside count k)
    where
      each : (own : Option (ℕ × ℕ)) → IfSome own (LiesInside bytes whole)
          → IfSome own (LiesIn bytes)
      each None inside = tt
      each (Some group) inside = inside.lies_in

  -- as many as are known to take part in each match have a text
  pub enough_texts : (n : ℕ) → static_captures_len tree ≡ Some n
      → n ≤ length (filter_map (option_map (text_at bytes))
      (spans_from (chars bytes) found.marks 0 (captures_len tree)))
  enough_texts n known =
      let enough = enough_take_part tree (chars bytes) found n (regular_tree tree given)
      (numbered_tree tree given) is known in
      omega (arith, enough, texts_reported bytes found.marks 0 (captures_len tree))
