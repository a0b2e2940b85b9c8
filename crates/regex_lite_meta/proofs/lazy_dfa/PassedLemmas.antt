-- What is known of the match of a list whose span has been found.
use Rattle.regex_lite_meta.proofs.Common.{◌≡◌, ℕ, ◌<◌, ◌≤◌, ◌⊎◌, List, [], Some, None, IsUtf8}
use Rattle.regex_lite_meta.proofs.Common.{Option}
use Rattle.regex_lite_meta.proofs.Common.{chars, sym, subst, arith, Found}
use Rattle.regex_lite_meta.proofs.Common.{best_at, IsBestOutcomeOf, IsOffset}
use Rattle.regex_lite_meta.proofs.Common.{IsNumberedFound, MatchStart, Row, slice_index}
use Rattle.regex_lite_meta.proofs.Common.{get_or_from_slice_get, length, slice_get_within}
use Rattle.regex_lite_meta.proofs.Common.{best_reported}
use Rattle.regex_lite_engine.specs.Graph.Places.{Place}
use Rattle.regex_lite_engine.specs.Search.NumberedOutcomes.{IsNumberedOutcome, numbered_at}
use Rattle.regex_lite_engine.specs.Search.NumberedOutcomes.{with_match_start_kept}
use Rattle.regex_lite_engine.specs.Search.NumberedList.{IsEntry, IsNumberedFoundOf}

-- of the answer of a list it is known where it starts, and of which pattern it is
module _ (table : List (Place ℕ)) (bytes : List ℕ) (utf8 : IsUtf8 bytes) (entries : List ℕ)
    (s : ℕ) (match_start : MatchStart) (end : ℕ)
    (is : IsBestOutcomeOf table (chars bytes) entries s (best_reported (Some (match_start, end))))
  where
    abbrev known : Found
    known = is.1

    abbrev answer : IsNumberedFoundOf table (chars bytes) entries s is.0 known
    answer = is.2

    is_entry : IsEntry entries match_start.number answer.entry
    is_entry = subst (λ n. IsEntry entries n answer.entry) (sym is.3.number_reported) answer.is_entry

    pub number_within : match_start.number < length entries
    number_within = slice_get_within entries match_start.number answer.entry is_entry

    is_start : IsOffset (chars bytes) known.start match_start.at
    is_start = (answer.answer.inside, is.3.start_reported)

    -- what is found of that pattern alone is the answer of the list
    found_of_list : (found : Found) → IsNumberedFound table (chars bytes) answer.entry s found
        → IsNumberedFoundOf table (chars bytes) entries s is.0 found
    found_of_list found own =
        let no_later = own.least known.start answer.answer.last known.end answer.answer.way (record {
          from = answer.answer.from;
          inside = answer.answer.inside;
          leads = answer.answer.is_way;
        }) in
        let no_sooner = answer.answer.least found.start own.last found.end own.way (record {
          from = own.from;
          inside = own.inside;
          leads = own.is_way;
        }) in
        let same : known.start ≡ found.start = omega (arith, no_later, no_sooner) in
        record {
          entry = answer.entry;
          is_entry = answer.is_entry;
          answer = own;
          first = λ i k way q j m.
              subst (λ z. (z < i) ⊎ ((z ≡ i) × (is.0 ≤ k))) same (answer.first i k way q j m);
        }

    same_entry : slice_index entries match_start.number ≡ answer.entry
    same_entry = get_or_from_slice_get entries match_start.number answer.entry 0 is_entry

    -- a search for that pattern alone finds it too
    pub alone : IsNumberedOutcome table (chars bytes) (slice_index entries match_start.number) s
        (best_at (Some (match_start.at, end)) [])
    alone =
        subst
        (λ entry. IsNumberedOutcome table (chars bytes) entry s
        (best_at (Some (match_start.at, end)) [])) (sym same_entry)
        (known, answer.answer, is.3.start_reported, is.4, is.5)

    own : (best : Option (ℕ × ℕ × Row))
        → IsNumberedOutcome table (chars bytes) (slice_index entries match_start.number) s best
        → IsNumberedOutcome table (chars bytes) answer.entry s best
    own best =
        subst (λ entry. IsNumberedOutcome table (chars bytes) entry s best) same_entry

    -- it has a match
    pub one_there : IsNumberedOutcome table (chars bytes) (slice_index entries match_start.number) s
        None → ⊥
    one_there none =
        own None none known.start answer.answer.last known.end answer.answer.way (record {
          from = answer.answer.from;
          inside = answer.answer.inside;
          leads = answer.answer.is_way;
        })

    -- what it finds is the answer of the list
    pub one_of_list : (span : ℕ × ℕ) (row : Row)
        → IsNumberedOutcome table (chars bytes) (slice_index entries match_start.number) s
        (best_at (Some span) row)
        → IsBestOutcomeOf table (chars bytes) entries s
        (with_match_start_kept (numbered_at (Some (match_start.number, span)) row))
    one_of_list span row found =
        let here = own (best_at (Some span) row) found in (
          is.0,
          here.0,
          found_of_list here.0 here.1,
          record { start_reported = here.2; number_reported = is.3.number_reported },
          here.3,
          here.4,
        )
