-- What an anchored search returns: its answer, by offsets.
use Rattle.regex_lite_engine.proofs.Common.{◌≡◌, ℕ, ◌<◌, ◌≤◌, ◌↔◌, Bool, List, [], ◌∷◌, length}
use Rattle.regex_lite_engine.proofs.Common.{is_some, IsTrue, Some, None, Option, chars, sym, refl}
use Rattle.regex_lite_engine.proofs.Common.{subst, arith, Text, Tree, IsRegular, table_of, Found}
use Rattle.regex_lite_engine.proofs.Common.{Best, IsDeadAt, Leads, numbered_step, position_at}
use Rattle.regex_lite_engine.proofs.Common.{search_start, written_out, start_address}
use Rattle.regex_lite_engine.specs.Graph.Places.{Place}
use Rattle.regex_lite_engine.specs.Graph.Renumbered.{IsGraphOf}
use Rattle.regex_lite_engine.specs.Graph.Stored.{StoredGraph}
use Rattle.regex_lite_engine.specs.Search.AnswerAt.{HasMatchAt, IsAnswerAt}
use Rattle.regex_lite_engine.specs.Search.NumberedAnswer.{IsWantedFound, IsWantedMatch}
use Rattle.regex_lite_engine.specs.Search.NumberedList.{IsWantedAnswerTo}
use Rattle.regex_lite_engine.specs.Search.NumberedOutcomes.{IsAnyTo, IsWantedOutcomeTo, best_at}
use Rattle.regex_lite_engine.specs.Search.NumberedOutcomes.{match_reported, with_start_kept}
use Rattle.regex_lite_engine.specs.Search.Outcomes.{IsOutcomeAt, IsSpanOutcomeAt}
use Rattle.regex_lite_engine.specs.declared.search.outcome.Outcome.{Outcome}
use Rattle.regex_lite_engine.proofs.laws.search.NumberedAnswerLemmas.{found_at_of_part}
use Rattle.regex_lite_engine.proofs.laws.search.NumberedAnswerLemmas.{match_of_wanted, wanted_match}
use Rattle.regex_lite_engine.proofs.laws.search.NumberedWayLemmas.{IsPart, IsPartNumber}
use Rattle.regex_lite_engine.proofs.laws.search.NumberedWayLemmas.{whole_number, whole_part}
use Rattle.regex_lite_engine.proofs.search.OneStartLemmas.{only_entry}
use Rattle.regex_lite_engine.proofs.search.OutcomeLemmas.{start_inside}
use Rattle.regex_lite_engine.proofs.search.WantedLemmas.{complete_there}

module _ (whole : Bool) (tree : Tree) (regular : IsRegular tree) (graph : StoredGraph)
    (is : IsGraphOf tree graph) (haystack : List ℕ) (start : ℕ)
    (inside : start ≤ length haystack) where
  abbrev text : Text
  text = chars haystack

  abbrev s : ℕ
  s = position_at haystack start

  abbrev entries : List ℕ
  entries = graph.start ∷ []

  at_position : (P : ℕ → Type 0) → P s → P (search_start haystack start)
  at_position P p = subst P (sym (start_inside haystack start inside)) p

  abbrev Part : ℕ → Type 0
  Part q = q < length (table_of graph)

  part : IsPart (written_out tree) is.name (table_of graph) Part
  part = whole_part (written_out tree) is.name (table_of graph) is.written

  first : IsPartNumber is.name Part start_address graph.start
  first = whole_number is.name (table_of graph) start_address graph.start is.start

  none_at : IsWantedAnswerTo (table_of graph) text entries whole s s None
      → HasMatchAt whole tree text s → ⊥
  none_at none here =
      let (j, q, way, numbered) = wanted_match tree text (table_of graph) graph.start is.name Part
      part first regular whole s here in
      none s 0 way q j (omega arith)
      (record { entry = graph.start; is_entry = refl; is_match = numbered })

  found_here : (found : Found) (number : ℕ)
      → IsWantedAnswerTo (table_of graph) text entries whole s s (Some (number, found))
      → IsAnswerAt whole tree text s (Some found)
  found_here found number (up_to, answer) =
      found_at_of_part tree text (table_of graph) graph.start is.name Part part first regular whole
      s found up_to
      (subst (λ z. IsWantedFound (table_of graph) text whole z s found)
      (sym (only_entry graph.start number answer.entry answer.is_entry).1) answer.answer)

  pub span_at_reported : (span : Option (ℕ × ℕ)) (slots : List (Option ℕ))
      → IsWantedOutcomeTo (table_of graph) text entries whole s s
      (with_start_kept (best_at span slots))
      → IsSpanOutcomeAt whole tree haystack start slots span
  span_at_reported None slots none =
      at_position (λ z. IsAnswerAt whole tree text z None) (λ here. none_at none here)
  span_at_reported (Some span) slots (number, found, answer, tells, to, held) = (
    found,
    at_position (λ z. IsAnswerAt whole tree text z (Some found)) (found_here found number answer),
    record { start = tells.start_reported; end = to; slots = held },
  )

  pub outcome_at_reported : (outcome : Option Outcome)
      → IsWantedOutcomeTo (table_of graph) text entries whole s s
      (with_start_kept (match_reported outcome))
      → IsOutcomeAt whole tree haystack start outcome
  outcome_at_reported None none = span_at_reported None [] none
  outcome_at_reported (Some outcome) some =
      span_at_reported (Some (outcome.start, outcome.end)) outcome.slots.items some

  pub any_at_reported : (best : Best) → IsAnyTo (table_of graph) text entries whole s s best
      → IsTrue (is_some best) ↔ HasMatchAt whole tree text (search_start haystack start)
  any_at_reported None none = (
    λ found. cc,
    λ here. absurd (none_at none (subst (HasMatchAt whole tree text)
        (start_inside haystack start inside) here)),
  )
  any_at_reported (Some best) (i, k, way, q, j, up_to, m) =
      (λ found. at_position (HasMatchAt whole tree text) there, λ here. refl)
    where
      there : HasMatchAt whole tree text s
      there =
          match_of_wanted tree text (table_of graph) graph.start is.name Part part first regular
          whole s i q j way up_to
          (subst (λ z. IsWantedMatch (table_of graph) text whole z s i way q j)
          (sym (only_entry graph.start k m.entry m.is_entry).1) m.is_match)

-- where no match can start, none does
pub none_from_dead : (table : List (Place ℕ)) (h : Text) (entry : ℕ) (whole : Bool) (s : ℕ)
    → IsDeadAt table h entry s → IsWantedAnswerTo table h (entry ∷ []) whole s s None
none_from_dead table h entry whole s dead i k way q j up_to m =
    let from = m.is_match.from in
    let same : i ≡ s = omega (arith, from, up_to) in
    dead way (q, j) (complete_there table h whole (q, j) m.is_match.leads.ends)
    (subst (λ z. Leads (ℕ × ℕ) (numbered_step table h) (z, s) way (q, j))
    (sym (only_entry entry k m.entry m.is_entry).1)
    (subst (λ z. Leads (ℕ × ℕ) (numbered_step table h) (m.entry, z) way (q, j)) same
    m.is_match.leads.is_way.0))
