-- What an anchored search for several patterns returns: its answer, by offsets.
use Rattle.regex_lite_engine.proofs.Common.{◌≡◌, ℕ, ◌≤◌, ◌↔◌, Bool, List, [], length, is_some}
use Rattle.regex_lite_engine.proofs.Common.{IsTrue}
use Rattle.regex_lite_engine.proofs.Common.{Some, None, Option, chars, sym, refl, subst, arith}
use Rattle.regex_lite_engine.proofs.Common.{Text, Tree, StoredList, table_of_list, Best}
use Rattle.regex_lite_engine.proofs.Common.{position_at, search_start}
use Rattle.regex_lite_engine.specs.Graph.SideBySide.{AreRegularPatterns}
use Rattle.regex_lite_engine.specs.Graph.StoredList.{IsGraphOfList}
use Rattle.regex_lite_engine.specs.Search.AnswerAt.{AnyMatchesAt, IsAnswerAtOfList}
use Rattle.regex_lite_engine.specs.Search.NumberedList.{IsWantedAnswerTo}
use Rattle.regex_lite_engine.specs.Search.NumberedOutcomes.{IsAnyTo, IsWantedOutcomeTo, numbered_at}
use Rattle.regex_lite_engine.specs.Search.NumberedOutcomes.{numbered_reported}
use Rattle.regex_lite_engine.specs.Search.NumberedOutcomes.{with_match_start_kept}
use Rattle.regex_lite_engine.specs.Search.Outcomes.{IsOutcomeAtOfList, IsSpanOutcomeAtOfList}
use Rattle.regex_lite_engine.specs.declared.search.outcome.Outcome.{Outcome}
use Rattle.regex_lite_engine.proofs.laws.several.NumberedListLemmas.{any_at_numbered}
use Rattle.regex_lite_engine.proofs.laws.several.NumberedListLemmas.{any_at_of_numbers}
use Rattle.regex_lite_engine.proofs.laws.several.NumberedListLemmas.{found_at_of_numbers}
use Rattle.regex_lite_engine.proofs.search.OutcomeLemmas.{start_inside}

module _ (whole : Bool) (trees : List Tree) (list : StoredList) (is : IsGraphOfList trees list)
    (haystack : List ℕ) (start : ℕ) (inside : start ≤ length haystack)
    (regular : AreRegularPatterns trees) where
  abbrev text : Text
  text = chars haystack

  abbrev s : ℕ
  s = position_at haystack start

  at_position : (P : ℕ → Type 0) → P s → P (search_start haystack start)
  at_position P p = subst P (sym (start_inside haystack start inside)) p

  none_at : IsWantedAnswerTo (table_of_list list) text list.entries whole s s None
      → AnyMatchesAt whole trees text s → ⊥
  none_at none (k, tree, there, here) =
      let (way, q, j, numbered) = any_at_numbered trees text (table_of_list list) list.entries
      is.name is.written is.entries regular s whole k tree there here in
      none s k way q j (omega arith) numbered

  pub list_span_at_reported : (span : Option (ℕ × (ℕ × ℕ))) (slots : List (Option ℕ))
      → IsWantedOutcomeTo (table_of_list list) text list.entries whole s s
      (with_match_start_kept (numbered_at span slots))
      → IsSpanOutcomeAtOfList whole trees haystack start slots span
  list_span_at_reported None slots none =
      at_position (λ z. IsAnswerAtOfList whole trees text z None) (λ any. none_at none any)
  list_span_at_reported (Some (reported, span)) slots
      (number, found, (up_to, answer), tells, to, held) =
      let same : reported ≡ number = tells.number_reported in (
        found,
        at_position (λ z. IsAnswerAtOfList whole trees text z (Some (reported, found)))
            (subst (λ n. IsAnswerAtOfList whole trees text s (Some (n, found))) (sym same)
            (found_at_of_numbers trees text (table_of_list list) list.entries is.name is.written
            is.entries regular s whole number found up_to answer)),
        record { start = tells.start_reported; end = to; slots = held },
      )

  pub list_outcome_at_reported : (outcome : Option (ℕ × Outcome))
      → IsWantedOutcomeTo (table_of_list list) text list.entries whole s s
      (with_match_start_kept (numbered_reported outcome))
      → IsOutcomeAtOfList whole trees haystack start outcome
  list_outcome_at_reported None none = list_span_at_reported None [] none
  list_outcome_at_reported (Some (reported, outcome)) some =
      list_span_at_reported (Some (reported, (outcome.start, outcome.end))) outcome.slots.items some

  pub list_any_at_reported : (best : Best)
      → IsAnyTo (table_of_list list) text list.entries whole s s best
      → IsTrue (is_some best) ↔ AnyMatchesAt whole trees text (search_start haystack start)
  list_any_at_reported None none = (
    λ found. cc,
    λ any. absurd (none_at none (subst (AnyMatchesAt whole trees text)
        (start_inside haystack start inside) any)),
  )
  list_any_at_reported (Some best) (i, k, way, q, j, up_to, m) =
      (λ found. at_position (AnyMatchesAt whole trees text) there, λ any. refl)
    where
      there : AnyMatchesAt whole trees text s
      there =
          any_at_of_numbers trees text (table_of_list list) list.entries is.name is.written
          is.entries regular s whole i k way q j up_to m
