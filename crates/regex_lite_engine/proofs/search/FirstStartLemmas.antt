-- A search that begins at the first position at which a match may begin.
use Rattle.regex_lite_engine.proofs.Common.{◌≡◌, ℕ, ◌+◌, ◌*◌, ◌^◌, ◌<◌, ◌≤◌, ◌⊎◌, List, []}
use Rattle.regex_lite_engine.proofs.Common.{◌∷◌, None, Some, Best, after, refl}
use Rattle.regex_lite_engine.proofs.Common.{IsUtf8, sym, subst, inl, inr, arith, cases_lt}
use Rattle.regex_lite_engine.proofs.Common.{mul-le-mul_left, zero, suc, true, false, ◌&&◌, ap}
use Rattle.regex_lite_engine.proofs.Common.{if◌then◌else◌, nat_lt, length, slice_index_or, MayBegin}
use Rattle.regex_lite_engine.proofs.Common.{FirstSet, chars, IsCharBoundary, Text, characters_left}
use Rattle.regex_lite_engine.proofs.Common.{IsDeadAt, position_at, IsHere, PassesTo, Here}
use Rattle.regex_lite_engine.specs.Search.NumberedOutcomes.{IsBestOutcome, IsNumberedEndOf}
use Rattle.regex_lite_engine.specs.Graph.Places.{Place}
use Rattle.regex_lite_engine.specs.Search.NumberedAnswer.{NoneStartsBefore, IsNumberedAnswer}
use Rattle.regex_lite_engine.specs.Search.NumberedAnswer.{IsNumberedMatch}
use Rattle.regex_lite_engine.specs.Search.Bounds.{IsBounded}
use Rattle.regex_lite_engine.specs.Search.Starts.{AreDeadFrom, SkipsTo}
use Rattle.regex_lite_syntax.specs.Text.{before}
use Rattle.regex_lite_syntax.proofs.LookupLemmas.{there_is}
use Rattle.regex_lite_engine.proofs.OffsetLemmas.{boundary_at, positions_order}
use Rattle.regex_lite_engine.proofs.PositionLemmas.{position_is, position_of}
use Rattle.regex_lite_engine.proofs.search.FirstByteLemmas.{begins_later, whole}
use Rattle.regex_lite_engine.proofs.search.LaterStartLemmas.{later_end}
use Rattle.regex_lite_engine.proofs.search.OneStartLemmas.{only_entry}

-- where no way leads to a match, there is none
pub none_from : (table : List (Place ℕ)) (haystack : Text) (start s : ℕ)
    → AreDeadFrom table haystack start s → IsNumberedAnswer table haystack start s None
none_from table haystack start s dead = λ i q j way is.
    dead i is.from is.inside way (q, j) is.leads.ends is.leads.is_way.0

-- the answer from a later start, before which no match starts, is the answer from here
pub answer_from : (table : List (Place ℕ)) (haystack : Text) (start s m : ℕ)
    → NoneStartsBefore table haystack start s m → (best : Best)
    → IsBestOutcome table haystack start m best → IsBestOutcome table haystack start s best
answer_from table haystack start s m before None none = λ i q j way is.
    let from = before.least i q j way is in
    none i q j way (record { from = from; inside = is.inside; leads = is.leads })
answer_from table haystack start s m before (Some best) (found, answer, from, to, held) =
    let low = before.from in
    let high = answer.from in (
      found,
      record {
        from = omega (arith, low, high);
        inside = answer.inside;
        least = λ i q j way is. answer.least i q j way
            (record { from = before.least i q j way is; inside = is.inside; leads = is.leads });
        way = answer.way;
        last = answer.last;
        is_way = answer.is_way;
        preferred = answer.preferred;
        marks = answer.marks;
      },
      from,
      to,
      held,
    )

-- a search that begins nowhere tries nothing
pub none_tried : (places arrows : ℕ) (haystack : Text) (s tried entered looked : ℕ) → tried ≡ 0
    → entered ≡ 0 → looked ≡ 0 → IsBounded places arrows haystack s tried entered looked
none_tried places arrows haystack s tried entered looked no_try no_entry no_look = record {
  few_tried = omega (arith, no_try);
  entered_tried = omega (arith, no_entry);
  few_entered = omega (arith, no_entry);
  few_looked = omega (arith, no_look);
  none_beyond = λ beyond. no_try;
}

-- what is allowed from a later position on is allowed from here
pub bounded_from : (places arrows : ℕ) (haystack : Text) (s m tried entered looked : ℕ) → s ≤ m
    → IsBounded places arrows haystack m tried entered looked
    → IsBounded places arrows haystack s tried entered looked
bounded_from places arrows haystack s m tried entered looked later bounded =
    let more : characters_left haystack m + 1 ≤ characters_left haystack s + 1
    = omega (arith, later) in
    let more_tries : (arrows + 1) * (characters_left haystack m + 1)
    ≤ (arrows + 1) * (characters_left haystack s + 1)
    = mul-le-mul_left (arrows + 1) more in
    let more_entries : places * (characters_left haystack m + 1)
    ≤ places * (characters_left haystack s + 1)
    = mul-le-mul_left places more in
    let few_tried = bounded.few_tried in
    let few_entered = bounded.few_entered in
    record {
      few_tried = omega (arith, few_tried, more_tries);
      entered_tried = bounded.entered_tried;
      few_entered = omega (arith, few_entered, more_entries);
      few_looked = bounded.few_looked;
      none_beyond = λ beyond. bounded.none_beyond (omega (arith, later, beyond));
    }

-- where no character begins a match, none begins between the haystack's start and its end
pub only_at_start : (s : FirstSet) (haystack : Text) (i : ℕ) → s.any ≡ false → 0 < i
    → i < length haystack → MayBegin s haystack i → ⊥
only_at_start s haystack zero none low high may = absurd (omega (arith, low))
only_at_start s haystack (suc j) none low high may =
    let there = there_is haystack (suc j) high in
    begins_later s haystack j (there_is haystack j (omega (arith, high))) (
      there.0,
      there.1,
      ap (λ z. z && (if nat_lt there.0 128
          then slice_index_or s.ascii there.0 true else s.others)) none,
    ) may

-- where a search that goes on at this offset stands
abbrev pub standing : (bytes : List ℕ) (at : ℕ) → at + 1 < 2 ^ 64 → Here
standing bytes at small = record {
  before = before (chars bytes) (position_at bytes at);
  after = after (chars bytes) (position_at bytes at);
  at = at;
  small = small;
}

-- it has only passed positions at which none begins
pub stands_after : {Passed : ℕ → Type 0} (bytes : List ℕ) (p at : ℕ) (small : at + 1 < 2 ^ 64)
    → IsUtf8 bytes → IsCharBoundary bytes at → SkipsTo Passed bytes p at
    → PassesTo Passed (chars bytes) p (standing bytes at small)
stands_after bytes p at small utf8 edge skips =
    let is = position_is bytes at utf8 edge in
    skips (standing bytes at small) refl
    (record { inside = is.0; bytes = is.1; behind = refl; ahead = refl })

-- where it has come to the end, the only position that is left is the last
pub last_left : (bytes : List ℕ) (q i : ℕ) {here : Here} → IsUtf8 bytes
    → IsHere (chars bytes) q here → length bytes ≤ here.at → q ≤ i → i ≤ length (chars bytes)
    → length (chars bytes) ≡ i
last_left bytes q i utf8 is end low high =
    let last = positions_order (chars bytes) (length (chars bytes)) q (omega arith)
    (omega (arith, end, whole bytes utf8, is.bytes)) in
    omega (arith, last, low, high)

module _ (table : List (Place ℕ)) (bytes : List ℕ) (utf8 : IsUtf8 bytes) (start s : ℕ)
    (here : Here) (w : PassesTo (IsDeadAt table (chars bytes) start) (chars bytes) s here) where
  position : position_at bytes here.at ≡ w.q
  position = position_of bytes utf8 w.q here.at (w.is.inside, w.is.bytes)

  pub first_boundary : IsCharBoundary bytes here.at
  first_boundary = boundary_at bytes w.q here.at utf8 (w.is.inside, w.is.bytes)

  pub first_here : IsHere (chars bytes) (position_at bytes here.at) here
  first_here = subst (λ z. IsHere (chars bytes) z here) (sym position) w.is

  -- no match starts before the first position
  pub none_before_first : NoneStartsBefore table (chars bytes) start s (position_at bytes here.at)
  none_before_first =
      let same = position in
      record {
        from = omega (arith, same, w.later);
        least = λ i q j way is. (
            let by_order : (i < w.q) ⊎ (w.q ≤ i) → position_at bytes here.at ≤ i = λ order.
            elim order [
              | inl before ↦
                  absurd (w.passed i is.from before way (q, j) is.leads.ends is.leads.is_way.0)
              | inr past ↦ omega (arith, same, past)
            ] in
            by_order (cases_lt i w.q));
      }

-- the least end of one pattern of several from a later start, before which no match of it starts,
-- is the least end from here
pub ends_from : (table : List (Place ℕ)) (haystack : Text) (entry s m : ℕ)
    → NoneStartsBefore table haystack entry s m → (best : Best)
    → IsNumberedEndOf table haystack (entry ∷ []) m best
    → IsNumberedEndOf table haystack (entry ∷ []) s best
ends_from table haystack entry s m before =
    later_end table haystack (entry ∷ []) s m before.from (λ i k way q j is.
    let (first, same) = only_entry entry k is.entry is.is_entry in
    before.least i q j way
    (subst (λ e. IsNumberedMatch table haystack e s i way q j) (sym same) is.is_match))

-- where no way of it leads to a match, it has none
pub no_end_from : (table : List (Place ℕ)) (haystack : Text) (entry s : ℕ)
    → AreDeadFrom table haystack entry s → IsNumberedEndOf table haystack (entry ∷ []) s None
no_end_from table haystack entry s dead = λ i k way q j is.
    let (first, same) = only_entry entry k is.entry is.is_entry in
    none_from table haystack entry s dead i q j way
    (subst (λ e. IsNumberedMatch table haystack e s i way q j) (sym same) is.is_match)
