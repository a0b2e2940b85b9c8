-- Where a match ends is known, and its slots are searched for in the text up to the character after
-- that. If the search finds a match that ends there too, it is the match of the whole text.
use Rattle.regex_lite_meta.proofs.Common.{◌≡◌, ℕ, suc, ◌≤◌, Bool, true, false, ◌⊎◌, List, [], ◌∷◌}
use Rattle.regex_lite_meta.proofs.Common.{length, take, ◌==◌, Some, None, IsUtf8, Option, option_map}
use Rattle.regex_lite_meta.proofs.Common.{chars, IsCharBoundary, sym, refl, ap, ◌∙◌, subst, inl, inr}
use Rattle.regex_lite_meta.proofs.Common.{arith, cases_lt, length-take-le, take_all, len_utf8}
use Rattle.regex_lite_meta.proofs.Common.{Text, Found}
use Rattle.regex_lite_meta.proofs.Common.{IsNumberedFound, best_at, offset, IsOffset}
use Rattle.regex_lite_meta.proofs.Common.{position_at, Row}
use Rattle.regex_lite_engine.specs.Graph.Places.{Place, step}
use Rattle.std.proofs.Common.{if◌then◌else◌, sum_by}
use Rattle.regex_lite_engine.specs.Search.Offsets.{HasSlots}
use Rattle.std.proofs.lemmas.List.{take-take}
use Rattle.std.specs.Option.{option_or}
use Rattle.regex_lite_engine.specs.Graph.Ways.{Leads}
use Rattle.regex_lite_engine.specs.Search.Marks.{marked, mark_of, marks_along}
use Rattle.regex_lite_engine.specs.Search.NumberedAnswer.{place_with, numbered_step, IsNumberedWay}
use Rattle.regex_lite_engine.specs.Search.NumberedAnswer.{IsNumberedMatch}
use Rattle.regex_lite_engine.specs.Search.NumberedOutcomes.{IsNumberedOutcome}
use Rattle.regex_lite_engine.specs.Search.Preference.{IsPreferred}
use Rattle.regex_lite_engine.proofs.OffsetLemmas.{boundary_at}
use Rattle.regex_lite_syntax.proofs.OptionLemmas.{same_some}
use Rattle.regex_lite_engine.proofs.PositionLemmas.{position_of, same_position}
use Rattle.regex_lite_engine.proofs.laws.answer.OrderLemmas as order
use Rattle.regex_lite_engine.proofs.laws.answer.ReachLemmas.{walk_inside}
use Rattle.regex_lite_engine.proofs.laws.search.AlikeLemmas.{leads_onward, marks_alike, seen}
use Rattle.regex_lite_engine.proofs.laws.search.AlikeLemmas.{seen_in_whole, way_alike, whole_in_seen}

-- up to the end, offsets are the same
same_offset : (haystack : Text) (end p : ℕ) → p ≤ end
    → offset (take end haystack) p ≡ offset haystack p
same_offset haystack end p low = ap (sum_by len_utf8) (take-take p end haystack low)

-- what is marked is where
marked_at : (mark : Option ℕ) (i slot p : ℕ) → marked mark i slot ≡ Some p → i ≡ p
marked_at None i slot p e = absurd cc
marked_at (Some own) i slot p e = by_test (own == slot) e
  where
    by_test : (b : Bool) → (if b then Some i else None) ≡ Some p → i ≡ p
    by_test true e = same_some e
    by_test false e = absurd cc

later_or_here : (later here : Option ℕ) (p : ℕ) → option_or later here ≡ Some p
    → (later ≡ Some p) ⊎ (here ≡ Some p)
later_or_here None here p e = inr e
later_or_here (Some own) here p e = inl e

module _ (table : List (Place ℕ)) where
  abbrev place : ℕ → Place ℕ
  place = place_with table

  -- a way marks nothing after its end
  marks_before : (haystack : Text) (ks : List ℕ) (n m : ℕ × ℕ) (slot p : ℕ)
      → Leads (ℕ × ℕ) (numbered_step table haystack) n ks m
      → marks_along haystack place (Some n) ks slot ≡ Some p → p ≤ m.1
  marks_before haystack [] n m slot p along held = absurd cc
  marks_before haystack (k ∷ ks) n m slot p (next, s, along) held =
      elim (later_or_here (marks_along haystack place (step haystack place n k) ks slot)
      (marked (mark_of (place n.0) k) n.1 slot) p held) [
        | inl later ↦
            marks_before haystack ks next m slot p along
            (ap (λ o. marks_along haystack place o ks slot) (sym s) ∙ later)
        | inr here ↦
            let same = marked_at (mark_of (place n.0) k) n.1 slot p here in
            let on = leads_onward place haystack (k ∷ ks) n m (next, s, along) in
            omega (arith, same, on)
      ]

  -- the match that is known
  module _ (haystack : Text) (start s : ℕ) (span : Found)
      (known : IsNumberedFound table haystack start s span) where
    abbrev part : Text
    part = seen haystack span.end

    abbrev begins : ℕ × ℕ
    begins = (start, span.start)

    abbrev ends : ℕ × ℕ
    ends = (known.last, span.end)

    inside : span.end ≤ length haystack
    inside =
        walk_inside haystack place known.way begins ends known.is_way.is_way.0 known.inside

    forward : span.start ≤ span.end
    forward = leads_onward place haystack known.way begins ends known.is_way.is_way.0

    part_has : (p : ℕ) → p ≤ span.end → p ≤ length part
    part_has p low = elim (cases_lt (length haystack) (suc span.end)) [
      | inl less ↦
          subst (λ z. p ≤ length z) (sym (take_all (suc span.end) haystack (omega (arith, less))))
          (omega (arith, low, inside))
      | inr more ↦
          let long = length-take-le (suc span.end) haystack more in omega (arith, low, long)
    ]

    -- it lies in the part
    there : IsNumberedMatch table part start span.start span.start known.way known.last span.end
    there = record {
      from = omega arith;
      inside = part_has span.start forward;
      leads = record {
        is_way =
            way_alike place haystack part span.end (whole_in_seen haystack span.end place)
            (seen_in_whole haystack span.end place) known.way begins ends (omega arith)
            known.is_way.is_way;
        ends = known.is_way.ends;
      };
    }

    -- what is found in the part from there on, if it ends where the match does
    module _ (found : Found) (is : IsNumberedFound table part start span.start found)
        (last : found.end ≡ span.end) where
      same_start : span.start ≡ found.start
      same_start =
          let from = is.from in
          let least = is.least span.start known.last span.end known.way there in
          omega (arith, from, least)

      found_way : IsNumberedWay table haystack start found.start is.way is.last found.end
      found_way = record {
        is_way =
            way_alike place part haystack span.end (seen_in_whole haystack span.end place)
            (whole_in_seen haystack span.end place) is.way (start, found.start)
            (is.last, found.end) (omega (arith, last)) is.is_way.is_way;
        ends = is.is_way.ends;
      }

      same_way : known.way ≡ is.way
      same_way =
          order.one_best known.way is.way
          (known.preferred is.way is.last found.end
          (subst (λ i. IsNumberedWay table haystack start i is.way is.last found.end)
          (sym same_start) found_way))
          (is.preferred known.way known.last span.end
          (subst (λ i. IsNumberedWay table part start i known.way known.last span.end) same_start
          there.leads))

      found_marks : found.marks ≡ marks_along haystack place (Some (start, found.start)) is.way
      found_marks =
          is.marks
          ∙ marks_alike place part haystack span.end (seen_in_whole haystack span.end place) is.way
          (start, found.start) (is.last, found.end) (omega (arith, last)) is.is_way.is_way.0

      found_in_whole : IsNumberedFound table haystack start s found
      found_in_whole = record {
        from = subst (λ i. s ≤ i) same_start known.from;
        inside = subst (λ i. i ≤ length haystack) same_start known.inside;
        least = λ i q j way m. subst (λ z. z ≤ i) same_start (known.least i q j way m);
        way = is.way;
        last = is.last;
        is_way = found_way;
        preferred = λ other q j p.
            subst (λ way. (way ≡ other) ⊎ IsPreferred way other) same_way
            (known.preferred other q j
            (subst (λ i. IsNumberedWay table haystack start i other q j) (sym same_start) p));
        marks = found_marks;
      }

      mark_kept : (slot : ℕ) (mark : Option ℕ) → found.marks slot ≡ mark
          → option_map (offset part) mark ≡ option_map (offset haystack) mark
      mark_kept slot None e = refl
      mark_kept slot (Some p) e =
          let low =
          marks_before haystack is.way (start, found.start) (is.last, found.end) slot p
          found_way.is_way.0 (ap (λ marks. marks slot) (sym found_marks) ∙ e) in
          ap Some (same_offset haystack (suc span.end) p (omega (arith, low, last)))

      slots_kept : (row : Row) → HasSlots part row found.marks → HasSlots haystack row found.marks
      slots_kept row held k slot e = held k slot e ∙ mark_kept k (found.marks k) refl

    -- the answer there is the answer in the whole text, if it ends where the match does
    whole_answer : (offsets reported : ℕ × ℕ) (row : Row) → offsets.0 ≡ offset haystack span.start
        → offsets.1 ≡ offset haystack span.end → reported.1 ≡ offsets.1
        → IsNumberedOutcome table part start span.start (best_at (Some reported) row)
        → IsNumberedOutcome table haystack start s (best_at (Some offsets) row)
    whole_answer offsets reported row from to same (found, is, reported_from, reported_to, held) = (
      found,
      found_in_whole found is last,
      from ∙ ap (offset haystack) (same_start found is last),
      to ∙ ap (offset haystack) (sym last),
      slots_kept found is last row held,
    )
      where
        last : found.end ≡ span.end
        last =
            same_position part found.end span.end
            (walk_inside part place is.way (start, found.start) (is.last, found.end)
            is.is_way.is_way.0 is.inside) (part_has span.end (omega arith))
            (sym reported_to ∙ same ∙ to
            ∙ sym (same_offset haystack (suc span.end) span.end (omega arith)))

  -- the same of a match whose offsets are known
  module _ (bytes : List ℕ) (start s : ℕ) (span : ℕ × ℕ)
      (outcome : IsNumberedOutcome table (chars bytes) start s (best_at (Some span) [])) where
    abbrev first : ℕ
    first = outcome.0.start

    abbrev last : ℕ
    last = outcome.0.end

    onward : first ≤ last
    onward = forward (chars bytes) start s outcome.0 outcome.1

    pub is_end : IsOffset (chars bytes) last span.1
    is_end = (inside (chars bytes) start s outcome.0 outcome.1, outcome.3)

    -- the text up to the character after the match's end
    module _ (part : List ℕ) (utf8 : IsUtf8 part) (cut : chars part ≡ seen (chars bytes) last)
      where
        offset_in_part : (p : ℕ) → p ≤ last → IsOffset (chars part) p (offset (chars bytes) p)
        offset_in_part p low =
            subst (λ z. IsOffset z p (offset (chars bytes) p)) (sym cut) (
              part_has (chars bytes) start s outcome.0 outcome.1 p low,
              sym (same_offset (chars bytes) (suc last) p (omega (arith, low))),
            )

        is_from : IsOffset (chars part) first span.0
        is_from = subst (IsOffset (chars part) first) (sym outcome.2) (offset_in_part first onward)

        pub from_boundary : IsCharBoundary part span.0
        from_boundary = boundary_at part first span.0 utf8 is_from

        pub span_end : (reported : ℕ × ℕ) (row : Row) → reported.1 ≡ span.1
            → IsNumberedOutcome table (chars part) start (position_at part span.0)
            (best_at (Some reported) row)
            → IsNumberedOutcome table (chars bytes) start s (best_at (Some span) row)
        span_end reported row same given =
            whole_answer (chars bytes) start s outcome.0 outcome.1 span reported row outcome.2
            outcome.3 same (subst
            (λ z. IsNumberedOutcome table z start first (best_at (Some reported) row)) cut (subst
            (λ i. IsNumberedOutcome table (chars part) start i (best_at (Some reported) row))
            (position_of part utf8 first span.0 is_from) given))
