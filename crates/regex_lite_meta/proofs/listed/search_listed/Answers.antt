use Rattle.regex_lite_engine.proofs.Common.{ℕ, ◌<◌, ◌≤◌, List, length, Some, None, Option, chars}
use Rattle.regex_lite_engine.proofs.Common.{subst, sym, slice_index, slice_get-get_or, Tree}
use Rattle.regex_lite_engine.proofs.Common.{HasTree}
use Rattle.regex_lite_engine.proofs.Common.{StoredList, table_of_list, IsAnswer, Found, position_at}
use Rattle.regex_lite_engine.proofs.Common.{IsNumberedOutcome, IsEntry, search_start}
use Rattle.regex_lite_engine.specs.Graph.SideBySide.{AreRegularPatterns}
use Rattle.regex_lite_engine.specs.Graph.StoredList.{IsGraphOfList}
use Rattle.regex_lite_engine.specs.Search.NumberedAnswer.{IsNumberedAnswer}
use Rattle.regex_lite_engine.specs.Search.NumberedOutcomes.{match_reported}
use Rattle.regex_lite_engine.specs.Search.Outcomes.{IsOutcome}
use Rattle.regex_lite_engine.specs.declared.search.outcome.Outcome.{Outcome}
use Rattle.regex_lite_engine.proofs.laws.search.NumberedAnswerLemmas.{answer_of_part}
use Rattle.regex_lite_engine.proofs.laws.several.PartLemmas.{InPattern, name_in_pattern}
use Rattle.regex_lite_engine.proofs.laws.several.PartLemmas.{part_of_list, entry_of_part}
use Rattle.regex_lite_engine.proofs.search.OutcomeLemmas.{start_inside}
use Rattle.regex_lite_engine.proofs.nfa.BoundaryLemmas.{on_boundary}
use Rattle.regex_lite_meta.proofs.listed.search_listed.Goals as goal

module _ (trees : List Tree) (regular : AreRegularPatterns trees) (list : StoredList)
    (is : IsGraphOfList trees list) (number : ℕ) (tree : Tree) (there : HasTree trees number tree)
    (within : number < length list.entries) (bytes : List ℕ) (start : ℕ)
    (inside : start ≤ length bytes) where
  own : IsEntry list.entries number (slice_index list.entries number)
  own = slice_get-get_or list.entries number 0 within

  -- the answer over the numbers of places, as that of the tree
  answer : (found : Option Found)
      → IsNumberedAnswer (table_of_list list) (chars bytes) (slice_index list.entries number)
      (position_at bytes start) found
      → IsAnswer tree (chars bytes) (search_start bytes start) found
  answer found numbered =
      let table = table_of_list list in
      let at = (is.entries.of_pattern number (slice_index list.entries number) own).2 in
      subst (λ s. IsAnswer tree (chars bytes) s found) (sym (start_inside bytes start inside))
      (answer_of_part tree (chars bytes) table (slice_index list.entries number)
      (name_in_pattern trees number tree there is.name table is.written)
      (InPattern trees number tree there is.name table is.written)
      (part_of_list trees number tree there is.name table is.written)
      (entry_of_part trees number tree there is.name table is.written
      (slice_index list.entries number) at)
      (regular number tree there) (position_at bytes start) found numbered)

  listed_reported : (outcome : Option Outcome)
      → IsNumberedOutcome (table_of_list list) (chars bytes) (slice_index list.entries number)
      (position_at bytes start) (match_reported outcome)
      → IsOutcome tree bytes start outcome
  listed_reported None none = answer None none
  listed_reported (Some outcome) (found, numbered, from, to, held) = (
    found,
    answer (Some found) numbered,
    record { start = from; end = to; slots = held },
  )

pub search_one-requires-clause-boundary : goal.search_one-requires-clause-boundary
search_one-requires-clause-boundary c = on_boundary _ _ c.requires.start c.if-start-haystack.false

pub returns-clause-found : goal.returns-clause-found
returns-clause-found c = λ trees tree regular is there.
    let own = c.pattern-pattern.ensures in
    listed_reported trees regular c.args.list.now is c.args.number tree there c.requires.number
    c.args.haystack.now c.args.start c.if-start-haystack.false c.in_ok-found.found
    (rw (own.table, own.entry) at c.in_ok-found.ensures.found)
