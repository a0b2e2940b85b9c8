-- A search from a later start, before which no match of any pattern starts.
use Rattle.regex_lite_engine.proofs.Common.{ℕ, ◌≤◌, List, Some, None, arith, Text, Best}
use Rattle.regex_lite_engine.proofs.Common.{IsMatchOfAny}
use Rattle.regex_lite_engine.specs.Graph.Places.{Place}
use Rattle.regex_lite_engine.specs.Search.NumberedOutcomes.{IsNumberedEndOf}

module _ (table : List (Place ℕ)) (haystack : Text) (entries : List ℕ) (s m : ℕ) (from : s ≤ m)
    (least : (i k : ℕ) (way : List ℕ) (q j : ℕ)
    → IsMatchOfAny table haystack entries s i k way q j → m ≤ i) where
  -- a match from the earlier start on is one from the later start on
  pub later_match : (i k : ℕ) (way : List ℕ) (q j : ℕ)
      → IsMatchOfAny table haystack entries s i k way q j
      → IsMatchOfAny table haystack entries m i k way q j
  later_match i k way q j is = record {
    entry = is.entry;
    is_entry = is.is_entry;
    is_match = record {
      from = least i k way q j is;
      inside = is.is_match.inside;
      leads = is.is_match.leads;
    };
  }

  -- the least end from the later start on is that from the earlier start on
  pub later_end : (best : Best) → IsNumberedEndOf table haystack entries m best
      → IsNumberedEndOf table haystack entries s best
  later_end None none = λ i k way q j is. none i k way q j (later_match i k way q j is)
  later_end (Some best) (end, shortest, at) =
      let own = shortest.is_match in
      let high = own.is_match.from in (
        end,
        record {
          start = shortest.start;
          number = shortest.number;
          way = shortest.way;
          last = shortest.last;
          is_match = record {
            entry = own.entry;
            is_entry = own.is_entry;
            is_match = record {
              from = omega (arith, from, high);
              inside = own.is_match.inside;
              leads = own.is_match.leads;
            };
          };
          least = λ i k way q j is. shortest.least i k way q j (later_match i k way q j is);
        },
        at,
      )
