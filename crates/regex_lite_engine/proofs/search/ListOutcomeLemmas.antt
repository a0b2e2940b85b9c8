-- What a search for several patterns returns: the answer of the list, by offsets.
use Rattle.regex_lite_engine.proofs.Common.{◌≡◌, ℕ, ◌+◌, ◌<◌, ◌≤◌, ◌↔◌, List, [], ◌∷◌, length}
use Rattle.regex_lite_engine.proofs.Common.{is_some, IsTrue, slice_index, Some, None, Option}
use Rattle.regex_lite_engine.proofs.Common.{option_map, chars, sym, refl, ap, ◌∙◌, subst, arith}
use Rattle.regex_lite_engine.proofs.Common.{length-map, sum_by-cons, slice_get-get_or, Tree}
use Rattle.regex_lite_engine.proofs.Common.{whole_arrows, arrows_of, HasTree, places_of_all}
use Rattle.regex_lite_engine.proofs.Common.{arrows_of_all, tries_of_all, place_of, StoredList}
use Rattle.regex_lite_engine.proofs.Common.{table_of_list, IsMatchFrom, HasMatchFrom, Found}
use Rattle.regex_lite_engine.proofs.Common.{AnyMatchesFrom, IsAnswerOfList, StepCounts, IsBoundedBy}
use Rattle.regex_lite_engine.proofs.Common.{IsEntry, IsMatchOfAny, IsNumberedAnswerOf, Best}
use Rattle.regex_lite_engine.proofs.Common.{position_at, search_start}
use Rattle.std.proofs.Common.{All}
use Rattle.regex_lite_engine.specs.Graph.StoredList.{IsGraphOfList}
use Rattle.regex_lite_engine.specs.Search.NumberedOutcomes.{IsBestOutcomeOf, IsNumberedEndOf}
use Rattle.regex_lite_engine.specs.Search.NumberedOutcomes.{numbered_at, numbered_reported}
use Rattle.regex_lite_engine.specs.Search.NumberedOutcomes.{with_match_start_kept}
use Rattle.regex_lite_engine.specs.declared.search.outcome.Outcome.{Outcome}
use Rattle.regex_lite_engine.specs.Graph.SideBySide.{AreRegularPatterns}
use Rattle.regex_lite_engine.specs.Search.Outcomes.{HasCostOfList, IsOutcomeOfList}
use Rattle.regex_lite_engine.specs.Search.Outcomes.{IsSpanOutcomeOfList}
use Rattle.regex_lite_engine.proofs.laws.several.NumberedListLemmas.{any_numbered, any_of_numbers}
use Rattle.regex_lite_engine.proofs.laws.several.NumberedListLemmas.{list_answer_of_numbers}
use Rattle.regex_lite_engine.proofs.laws.answer.AnswerLemmas.{found_match}
use Rattle.regex_lite_syntax.proofs.OptionLemmas.{same_some}
use Rattle.regex_lite_engine.proofs.search.OneStartLemmas.{only_entry}
use Rattle.regex_lite_engine.proofs.search.OutcomeLemmas.{start_inside}

-- each pattern is one try more than its arrows
tries_are : (trees : List Tree) → tries_of_all trees ≡ arrows_of_all trees + length trees
tries_are [] = refl
tries_are (tree ∷ trees) =
    let rest = tries_are trees in
    let tries = sum_by-cons (λ t. whole_arrows t + 1) tree trees in
    let arrows = sum_by-cons whole_arrows tree trees in
    omega (arith, rest, tries, arrows)

-- where there is a pattern, there is a place
pub has_place : (places : ℕ) (entries : List ℕ) → All (λ entry. entry < places) entries
    → 0 < length entries → 0 < places
has_place places [] inside some = absurd (omega (arith, some))
has_place places (entry ∷ entries) inside some =
    let first : entry < places = inside 0 entry some in omega (arith, first)

module _ (trees : List Tree) (list : StoredList) (is : IsGraphOfList trees list)
    (haystack : List ℕ) (start : ℕ) (inside : start ≤ length haystack) where
  pub at_position : (P : ℕ → Type 0) → P (position_at haystack start)
      → P (search_start haystack start)
  at_position P p = subst P (sym (start_inside haystack start inside)) p

  -- what is allowed of the graph is allowed of the trees
  pub cost_of_list : (steps : StepCounts)
      → IsBoundedBy (length (table_of_list list))
      (arrows_of (table_of_list list) + length list.entries) (chars haystack)
      (position_at haystack start) steps.tried steps.entered steps.looked
      → HasCostOfList trees haystack start steps
  cost_of_list steps bounded =
      at_position (λ s. IsBoundedBy (places_of_all trees) (tries_of_all trees) (chars haystack) s
      steps.tried steps.entered steps.looked)
      (subst (λ n. IsBoundedBy (places_of_all trees) n (chars haystack)
      (position_at haystack start) steps.tried steps.entered steps.looked)
      (omega (arith, is.each_arrow, is.each_entry, tries_are trees))
      (subst (λ n. IsBoundedBy n (arrows_of (table_of_list list) + length list.entries)
      (chars haystack) (position_at haystack start) steps.tried steps.entered steps.looked)
      (length-map list.places place_of ∙ is.places) bounded))

  module _ (regular : AreRegularPatterns trees) where
    -- the answer over the numbers of places, as that of the list
    answer_reported : (answer : Option (ℕ × Found))
        → IsNumberedAnswerOf (table_of_list list) (chars haystack) list.entries
        (position_at haystack start) answer
        → IsAnswerOfList trees (chars haystack) (search_start haystack start) answer
    answer_reported answer numbered =
        at_position (λ s. IsAnswerOfList trees (chars haystack) s answer)
        (list_answer_of_numbers trees (chars haystack) (table_of_list list) list.entries is.name
        is.written is.entries regular (position_at haystack start) answer numbered)

    pub list_span_reported : (span : Option (ℕ × (ℕ × ℕ))) (slots : List (Option ℕ))
        → IsBestOutcomeOf (table_of_list list) (chars haystack) list.entries
        (position_at haystack start) (with_match_start_kept (numbered_at span slots))
        → IsSpanOutcomeOfList trees haystack start slots span
    list_span_reported None slots none = answer_reported None none
    list_span_reported (Some (reported, span)) slots (number, found, answer, tells, to, held) =
        let same : reported ≡ number = tells.number_reported in (
          found,
          subst (λ n. IsAnswerOfList trees (chars haystack) (search_start haystack start)
              (Some (n, found))) (sym same) (answer_reported (Some (number, found)) answer),
          record { start = tells.start_reported; end = to; slots = held },
        )

    pub outcome_reported : (outcome : Option (ℕ × Outcome))
        → IsBestOutcomeOf (table_of_list list) (chars haystack) list.entries
        (position_at haystack start) (with_match_start_kept (numbered_reported outcome))
        → IsOutcomeOfList trees haystack start outcome
    outcome_reported None none = list_span_reported None [] none
    outcome_reported (Some (reported, outcome)) some =
        list_span_reported (Some (reported, (outcome.start, outcome.end))) outcome.slots.items some

    pub any_reported : (best : Best)
        → IsNumberedEndOf (table_of_list list) (chars haystack) list.entries
        (position_at haystack start) best
        → IsTrue (is_some (option_map (λ z. z.1) best))
        ↔ AnyMatchesFrom trees (chars haystack) (search_start haystack start)
    any_reported None none = (
      λ found. cc,
      λ any. absurd (answer_reported None none any),
    )
    any_reported (Some best) (end, shortest, at) = (
      λ found. at_position (λ s. AnyMatchesFrom trees (chars haystack) s) there,
      λ any. refl,
    )
      where
        there : AnyMatchesFrom trees (chars haystack) (position_at haystack start)
        there =
            let (tree, known, match) = any_of_numbers trees (chars haystack) (table_of_list list)
            list.entries is.name is.written is.entries regular (position_at haystack start)
            shortest.start shortest.number shortest.way shortest.last end shortest.is_match in
            (shortest.number, tree, known, (shortest.start, end, match))

    -- the search for one of the patterns shows whether it matches
    module _ (number : ℕ) (tree : Tree) (there : HasTree trees number tree)
        (known : number < length list.entries) where
      abbrev pub Here : Type 0
      Here = HasMatchFrom tree (chars haystack) (position_at haystack start)

      own : IsEntry list.entries number (slice_index list.entries number)
      own = slice_get-get_or list.entries number 0 known

      -- its own matches over numbers
      numbered : Here → (i k : ℕ) × (way : List ℕ) × (q j : ℕ)
          × IsMatchOfAny (table_of_list list) (chars haystack)
          (slice_index list.entries number ∷ [])
          (position_at haystack start) i k way q j
      numbered (i, j, match) =
          let (q, way, m) = any_numbered trees (chars haystack) (table_of_list list) list.entries
          is.name is.written is.entries regular
          (position_at haystack start) number i j tree there match in (
            i,
            0,
            way,
            q,
            j,
            record {
              entry = m.entry;
              is_entry = sym own ∙ m.is_entry;
              is_match = m.is_match;
            },
          )

      pub one_reported : (best : Best)
          → IsNumberedEndOf (table_of_list list) (chars haystack)
          (slice_index list.entries number ∷ [])
          (position_at haystack start) best
          → IsTrue (is_some (option_map (λ z. z.1) best)) ↔ Here
      one_reported None none = (
        λ found. cc,
        λ here. absurd (let (i, k, way, q, j, m) = numbered here in none i k way q j m),
      )
      one_reported (Some best) (end, shortest, at) = (λ found. there_is, λ here. refl)
        where
          there_is : Here
          there_is =
              let m = shortest.is_match in
              let (same, entry) =
              only_entry (slice_index list.entries number) shortest.number m.entry m.is_entry in
              let (other, known, match) = any_of_numbers trees (chars haystack) (table_of_list list)
              list.entries is.name is.written is.entries regular (position_at haystack start)
              shortest.start number shortest.way shortest.last end
              (record {
                entry = m.entry;
                is_entry = own ∙ ap Some entry;
                is_match = m.is_match;
              }) in (
                shortest.start,
                end,
                subst (λ t. IsMatchFrom t (chars haystack) (position_at haystack start)
                    shortest.start end) (same_some (sym known ∙ there)) match,
              )

-- what is found shows whether any pattern matches
pub any_of_span : (trees : List Tree) → AreRegularPatterns trees → (haystack : List ℕ) (start : ℕ)
    (slots : List (Option ℕ)) (span : Option (ℕ × (ℕ × ℕ)))
    → IsSpanOutcomeOfList trees haystack start slots span
    → IsTrue (is_some span) ↔ AnyMatchesFrom trees (chars haystack) (search_start haystack start)
any_of_span trees regular haystack start slots None none = (λ found. cc, λ any. absurd (none any))
any_of_span trees regular haystack start slots (Some reported) (found, is, tells) = (
  λ yes. (
      let match = found_match is.tree (chars haystack)
      (regular reported.0 is.tree is.numbered) found.start found is.answer in (
        reported.0,
        is.tree,
        is.numbered,
        (
          found.start,
          found.end,
          record { from = is.from; inside = match.inside; matches = match.matches },
        ),
      )),
  λ any. refl,
)

pub any_of_outcome : (trees : List Tree) → AreRegularPatterns trees → (haystack : List ℕ)
    (start : ℕ) (outcome : Option (ℕ × Outcome)) → IsOutcomeOfList trees haystack start outcome
    → IsTrue (is_some outcome)
    ↔ AnyMatchesFrom trees (chars haystack) (search_start haystack start)
any_of_outcome trees regular haystack start None none =
    any_of_span trees regular haystack start [] None none
any_of_outcome trees regular haystack start (Some (number, outcome)) some =
    any_of_span trees regular haystack start outcome.slots.items
    (Some (number, (outcome.start, outcome.end))) some
