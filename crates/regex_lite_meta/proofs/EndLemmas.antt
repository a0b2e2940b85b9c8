-- The least end that a search of one pattern finds, which begins where a match may begin first.
use Rattle.regex_lite_meta.proofs.Common.{◌≡◌, ℕ, List, [], ◌∷◌, Some, None, IsUtf8, chars, refl}
use Rattle.regex_lite_meta.proofs.Common.{Option, option_map, sym, subst, Text, arrows_of, length}
use Rattle.regex_lite_meta.proofs.Common.{with_start_kept}
use Rattle.regex_lite_meta.proofs.Common.{Best, IsNumberedEndOf, position_at, PassesTo, Here}
use Rattle.regex_lite_engine.specs.Graph.Places.{Place}
use Rattle.regex_lite_engine.specs.declared.search.outcome.Outcome.{Outcome}
use Rattle.regex_lite_engine.specs.Search.Bounds.{StepCounts}
use Rattle.regex_lite_engine.specs.Search.NumberedAnswer.{IsNumberedMatch, NoneStartsBefore}
use Rattle.regex_lite_engine.specs.Search.NumberedList.{IsMatchOfAny}
use Rattle.regex_lite_engine.specs.Search.NumberedOutcomes.{match_reported}
use Rattle.regex_lite_engine.specs.Search.OutcomeOfOne.{ending_at, IsWithinBounds, TellsEndOfOne}
use Rattle.regex_lite_engine.specs.Search.OutcomeOfOne.{TellsOfOne}
use Rattle.regex_lite_engine.specs.Search.Starts.{AreDeadFrom, IsDeadAt}
use Rattle.regex_lite_engine.proofs.pikevm.ShortestLemmas.{one_end}
use Rattle.regex_lite_engine.proofs.search.FirstStartLemmas.{answer_from, bounded_from, ends_from}
use Rattle.regex_lite_engine.proofs.search.FirstStartLemmas.{none_before_first, none_from}
use Rattle.regex_lite_engine.proofs.search.OneStartLemmas.{only_entry}
use Rattle.regex_lite_engine.proofs.search.OutcomeLemmas.{IsNumberedEnd, end_from}

-- where a match ends of which only the end is reported
pub ended : (end : Option ℕ) → option_map (λ best. best.1) (ending_at end) ≡ end
ended None = refl
ended (Some end) = refl

-- a match that ends there ends there, whatever else is known of it
pub ends_there : (table : List (Place ℕ)) (haystack : Text) (entries : List ℕ) (s : ℕ)
    (best : Best) → IsNumberedEndOf table haystack entries s best
    → IsNumberedEndOf table haystack entries s (ending_at (option_map (λ best. best.1) best))
ends_there table haystack entries s None none = none
ends_there table haystack entries s (Some best) found = found

module _ (table : List (Place ℕ)) (haystack : Text) (entry s : ℕ) where
  -- a match of one of them is one of the only pattern
  pub own_match : (i k : ℕ) (way : List ℕ) (q j : ℕ)
      → IsMatchOfAny table haystack (entry ∷ []) s i k way q j
      → IsNumberedMatch table haystack entry s i way q j
  own_match i k way q j is =
      subst (λ z. IsNumberedMatch table haystack z s i way q j)
      (sym (only_entry entry k is.entry is.is_entry).1) is.is_match

  -- the least end of a pattern is that of a list that has no other
  pub end_of_one : (best : Best) → IsNumberedEnd table haystack entry s best
      → IsNumberedEndOf table haystack (entry ∷ []) s best
  end_of_one None none = λ i k way q j is. none i q j way (own_match i k way q j is)
  end_of_one (Some best) (end, ((i, q, way, is), least), at) = (
    end,
    record {
      start = i;
      number = 0;
      way = way;
      last = q;
      is_match = record { entry = entry; is_entry = refl; is_match = is };
      least = λ i k way q j is. least i q j way (own_match i k way q j is);
    },
    at,
  )

module _ (table : List (Place ℕ)) (bytes : List ℕ) (entry : ℕ) (start : ℕ) where
  -- it is the least end from the offset on
  pub end_reported : (utf8 : IsUtf8 bytes) (first : Here)
      → PassesTo (IsDeadAt table (chars bytes) entry) (chars bytes) (position_at bytes start) first
      → (best : Best)
      → IsNumberedEndOf table (chars bytes) (entry ∷ []) (position_at bytes first.at) best
      → IsNumberedEndOf table (chars bytes) (entry ∷ []) (position_at bytes start)
      (ending_at (option_map (λ best. best.1) best))
  end_reported utf8 first passes best found =
      let s = position_at bytes start in
      let m = position_at bytes first.at in
      ends_there table (chars bytes) (entry ∷ []) s best
      (end_of_one table (chars bytes) entry s best
      (end_from table (chars bytes) entry s m
      (none_before_first table bytes utf8 entry s first passes) best
      (one_end table (chars bytes) entry m best found)))

  -- where no match may begin there is none
  pub none_reported : AreDeadFrom table (chars bytes) entry (position_at bytes start)
      → IsNumberedEndOf table (chars bytes) (entry ∷ []) (position_at bytes start) None
  none_reported dead =
      let s = position_at bytes start in
      end_of_one table (chars bytes) entry s None (none_from table (chars bytes) entry s dead)

-- what holds of one pattern from a later offset, before which no match of it starts, holds from
-- this one
module _ (table : List (Place ℕ)) (haystack : List ℕ) (entry start first : ℕ) where
  abbrev NoneBetween : Type 0
  NoneBetween =
      NoneStartsBefore table (chars haystack) entry (position_at haystack start)
      (position_at haystack first)

  cost_from : (steps : StepCounts) → NoneBetween → IsWithinBounds table haystack first steps
      → IsWithinBounds table haystack start steps
  cost_from steps before =
      bounded_from (length table) (arrows_of table) (chars haystack) (position_at haystack start)
      (position_at haystack first) steps.tried steps.entered steps.looked before.from

  pub found_from_later : (width : ℕ) (reported : Option Outcome × StepCounts) → NoneBetween
      → TellsOfOne table entry haystack first width reported
      → TellsOfOne table entry haystack start width reported
  found_from_later width reported before tells = record {
    found = answer_from table (chars haystack) entry (position_at haystack start)
        (position_at haystack first) before (with_start_kept (match_reported reported.0))
        tells.found;
    slots = tells.slots;
    cost = cost_from reported.1 before tells.cost;
    entered = tells.entered;
  }

  pub end_from_later : (reported : Option ℕ × StepCounts) → NoneBetween
      → TellsEndOfOne table entry haystack first reported
      → TellsEndOfOne table entry haystack start reported
  end_from_later reported before tells = record {
    found = ends_from table (chars haystack) entry (position_at haystack start)
        (position_at haystack first) before (ending_at reported.0) tells.found;
    cost = cost_from reported.1 before tells.cost;
    entered = tells.entered;
  }
