-- A search that begins anew at a later start, since no match starts before.
use Rattle.regex_lite_meta.proofs.Common.{ℕ, ◌+◌, ◌<◌, ◌≤◌, ◌⊎◌, List, length, Some, None, inl}
use Rattle.regex_lite_meta.proofs.Common.{inr, arith, cases_lt, Text, Thread, IsComing, Best}
use Rattle.regex_lite_meta.proofs.Common.{Bool, true, false, IsBestOutcomeOf}
use Rattle.regex_lite_meta.proofs.Common.{IsFoundOf}
use Rattle.regex_lite_engine.specs.Graph.Places.{Place}
use Rattle.regex_lite_engine.specs.Search.NumberedList.{IsMatchOfAny}
use Rattle.regex_lite_engine.proofs.pikevm.ShortestLemmas.{ends_later}
use Rattle.regex_lite_engine.proofs.search.LaterStartLemmas.{later_end, later_match}
use Rattle.regex_lite_meta.specs.LazyDfa.Automaton.{ReadsAtMost}
use Rattle.regex_lite_meta.specs.LazyDfa.Running.{NoneStartsBeforeOf}

module _ (table : List (Place ℕ)) (h : Text) (entries : List ℕ) where
  -- none starts before where a search begins
  pub none_before : (s : ℕ) → NoneStartsBeforeOf table h entries s s
  none_before s = record { from = omega arith; least = λ i k way q j is. is.is_match.from }

  module _ (s m : ℕ) (before : NoneStartsBeforeOf table h entries s m) where
    -- a match from here on is one from the later start on
    match_from : (i k : ℕ) (way : List ℕ) (q j : ℕ) → IsMatchOfAny table h entries s i k way q j
        → IsMatchOfAny table h entries m i k way q j
    match_from = later_match table h entries s m before.from before.least

    -- the answer from the later start on is the answer from here on
    outcome_from : (best : Best) → IsBestOutcomeOf table h entries m best
        → IsBestOutcomeOf table h entries s best
    outcome_from None none = λ i k way q j is. none i k way q j (match_from i k way q j is)
    outcome_from (Some best) (number, found, answer, reported, end, held) =
        let low = before.from in
        let own = answer.answer in
        let high = own.from in (
          number,
          found,
          record {
            entry = answer.entry;
            is_entry = answer.is_entry;
            answer = record {
              from = omega (arith, low, high);
              inside = own.inside;
              least = λ i q j way is. own.least i q j way (record {
                from =
                    before.least i number way q j
                    (record { entry = answer.entry; is_entry = answer.is_entry; is_match = is });
                inside = is.inside;
                leads = is.leads;
              });
              way = own.way;
              last = own.last;
              is_way = own.is_way;
              preferred = own.preferred;
              marks = own.marks;
            };
            first = λ i k way q j is. answer.first i k way q j (match_from i k way q j is);
          },
          reported,
          end,
          held,
        )

    -- and so is what is asked for
    pub found_from : (earliest : Bool) (best : Best) → IsFoundOf earliest table h entries m best
        → IsFoundOf earliest table h entries s best
    found_from false = outcome_from
    found_from true = later_end table h entries s m before.from before.least

    -- a search that stands at a position without a match has none that started as many characters
    -- before as a way reads at most, or earlier
    pub anew : (most q n : ℕ) (threads : List Thread)
        → ReadsAtMost table entries most
        → IsComing table h entries m (length h) q threads None → n + most ≤ q → s ≤ n
        → NoneStartsBeforeOf table h entries s n
    anew most q n threads reads coming far later =
        record {
          from = later;
          least = λ i k way r j is. by_start i k way r j is (cases_lt i n);
        }
      where
        by_start : (i k : ℕ) (way : List ℕ) (r j : ℕ) → IsMatchOfAny table h entries s i k way r j
            → (i < n) ⊎ (n ≤ i) → n ≤ i
        by_start i k way r j is (inr le) = le
        by_start i k way r j is (inl less) =
            let ends = ends_later table h entries m q threads coming i k way r j
            (match_from i k way r j is) in
            let few = reads h k is.entry i way r j is.is_entry is.is_match.leads.is_way.0 in
            absurd (omega (arith, ends, few, less, far))
