-- What a search of one pattern tells is the answer of its tree, and that of a list which has no
-- other pattern.
use Rattle.regex_lite_meta.proofs.Common.{◌≡◌, ◌<◌, ◌≤◌, ◌⊎◌, ℕ, List, [], ◌∷◌, Some, None, Option}
use Rattle.regex_lite_meta.proofs.Common.{option_map, refl, inl, inr, arith, cases_lt, Text, Row}
use Rattle.regex_lite_meta.proofs.Common.{IsBestOutcomeOf, IsNumberedEndOf, best_at, chars, length}
use Rattle.regex_lite_meta.proofs.Common.{IfSome, position_at, subst, sym, ap, ◌∙◌, slice_index}
use Rattle.regex_lite_meta.proofs.Common.{table_of, table_of_list}
use Rattle.regex_lite_engine.specs.Graph.StoredList.{StoredList}
use Rattle.regex_lite_engine.specs.declared.search.outcome.Outcome.{Outcome}
use Rattle.regex_lite_engine.specs.Graph.Places.{Place}
use Rattle.regex_lite_engine.specs.Search.NumberedOutcomes.{IsNumberedOutcome, match_reported}
use Rattle.regex_lite_engine.specs.Search.NumberedOutcomes.{numbered_at, numbered_reported}
use Rattle.regex_lite_engine.specs.Search.NumberedOutcomes.{with_match_start_kept}
use Rattle.regex_lite_meta.specs.Memories.{SearchesForOne, SearchesList}
use Rattle.regex_lite_meta.specs.declared.list_searcher.Inner.TheVariants.{One}
use Rattle.regex_lite_meta.specs.declared.pattern_searcher.PatternSearcher.{PatternSearcher}
use Rattle.regex_lite_meta.proofs.EndLemmas.{ended, own_match}
use Rattle.std.specs.Prelude.{IsTrue, is_some}
use Rattle.regex_lite_syntax.specs.Tree.{Tree}
use Rattle.regex_lite_syntax.specs.Tree.Regular.{IsRegular}
use Rattle.regex_lite_engine.specs.Graph.Renumbered.{IsGraphOf}
use Rattle.regex_lite_engine.specs.Graph.Stored.{StoredGraph}
use Rattle.regex_lite_engine.specs.Search.OutcomeOfOne.{ending_at}
use Rattle.regex_lite_engine.specs.Search.Outcomes.{IsEndOutcome}
use Rattle.regex_lite_engine.proofs.pikevm.ShortestLemmas.{one_end}
use Rattle.regex_lite_engine.proofs.search.OutcomeLemmas.{end_reported}

module _ (table : List (Place ℕ)) (haystack : Text) (entry s : ℕ) where
  pub span_of_one : (span : Option (ℕ × ℕ)) (row : Row)
      → IsNumberedOutcome table haystack entry s (best_at span row)
      → IsBestOutcomeOf table haystack (entry ∷ []) s
      (with_match_start_kept (numbered_at (option_map (λ span. (0, span)) span) row))
  span_of_one None row none =
      λ i k way q j is. none i q j way (own_match table haystack entry s i k way q j is)
  span_of_one (Some span) row (found, is, from, to, held) = (
    0,
    found,
    record {
      entry = entry;
      is_entry = refl;
      answer = is;
      first = λ i k way q j other. (
          let least = is.least i q j way (own_match table haystack entry s i k way q j other) in
          let by_order : (found.start < i) ⊎ (i ≤ found.start)
          → (found.start < i) ⊎ ((found.start ≡ i) × (0 ≤ k)) = λ order. elim order [
            | inl before ↦ inl before
            | inr after ↦ inr (omega (arith, least, after), omega arith)
          ] in
          by_order (cases_lt found.start i));
    },
    record { start_reported = from; number_reported = refl },
    to,
    held,
  )

  pub outcome_of_one : (outcome : Option Outcome)
      → IsNumberedOutcome table haystack entry s (match_reported outcome)
      → IsBestOutcomeOf table haystack (entry ∷ []) s
      (with_match_start_kept (numbered_reported (option_map (λ outcome. (0, outcome)) outcome)))
  outcome_of_one None none = span_of_one None [] none
  outcome_of_one (Some outcome) some =
      span_of_one (Some (outcome.start, outcome.end)) outcome.slots.items some

-- a reported match entered a place
pub some_entered : {X : Type 0} (P : Type 0) (found : Option X) → IsTrue (is_some found)
    → IfSome found (λ _. P) → P
some_entered P None some holds = cc
some_entered P (Some found) some holds = holds

module _ (tree : Tree) (regular : IsRegular tree) (graph : StoredGraph)
    (is : IsGraphOf tree graph) (bytes : List ℕ) (start : ℕ) (inside : start ≤ length bytes) where
  -- the least end over numbers is that of the tree
  pub end_of_tree : (end : Option ℕ)
      → IsNumberedEndOf (table_of graph) (chars bytes) (graph.start ∷ []) (position_at bytes start)
      (ending_at end) → IsEndOutcome tree bytes start end
  end_of_tree end found =
      subst (IsEndOutcome tree bytes start) (ended end)
      (end_reported tree regular graph is bytes start inside (ending_at end)
      (one_end (table_of graph) (chars bytes) graph.start (position_at bytes start)
      (ending_at end) found))

-- what holds of the pattern of a list that has no other holds of the list
module _ (list : StoredList) (entry : ℕ) (entries : list.entries ≡ entry ∷ [])
    (table : List (Place ℕ)) (of_table : table ≡ table_of_list list) (first : ℕ)
    (of_entry : first ≡ slice_index list.entries 0) where
  pub in_list : (P : List (Place ℕ) → List ℕ → Type 0) → P table (first ∷ [])
      → P (table_of_list list) list.entries
  in_list P holds =
      subst (λ z. P (table_of_list list) z) (sym entries)
      (subst (λ z. P (table_of_list list) (z ∷ [])) (of_entry ∙ ap (λ z. slice_index z 0) entries)
      (subst (λ z. P z (first ∷ [])) of_table holds))

-- what searches for the only pattern of a list searches the list
pub still_one : (list : StoredList) (entry : ℕ) → list.entries ≡ entry ∷ []
    → (table : List (Place ℕ)) → table ≡ table_of_list list → (own : ℕ)
    → own ≡ slice_index list.entries 0 → (one : PatternSearcher) → SearchesForOne table own one
    → SearchesList list (One one)
still_one list entry alone table table_is own own_is one searches =
    let same : own ≡ entry = own_is ∙ ap (λ entries. slice_index entries 0) alone in (
      entry,
      alone,
      subst (λ t. SearchesForOne t entry one) table_is
          (subst (λ n. SearchesForOne table n one) same searches),
    )
