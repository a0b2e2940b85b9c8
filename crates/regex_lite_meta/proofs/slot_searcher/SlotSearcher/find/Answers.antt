use Rattle.regex_lite_meta.proofs.Common.{ℕ, List, [], Some, None, Option, chars, subst}
use Rattle.regex_lite_meta.proofs.Common.{table_of, Found, best_at, Row}
use Rattle.regex_lite_syntax.proofs.OptionLemmas.{not_there, same_some}
use Rattle.regex_lite_syntax.specs.Tree.{Tree}
use Rattle.regex_lite_syntax.specs.Tree.Regular.{IsRegular}
use Rattle.regex_lite_engine.specs.Graph.Renumbered.{IsGraphOf}
use Rattle.regex_lite_engine.specs.Graph.Stored.{StoredGraph}
use Rattle.regex_lite_engine.specs.Search.NumberedOutcomes.{IsNumberedOutcome}
use Rattle.regex_lite_engine.specs.Search.Offsets.{search_start, HasSlots}
use Rattle.regex_lite_engine.specs.Search.Outcomes.{IsSpanOutcome}
use Rattle.regex_lite_engine.proofs.laws.answer.AnswerLemmas.{one_answer}
use Rattle.regex_lite_engine.proofs.laws.search.NumberedAnswerLemmas.{answer_of_numbers}
use Rattle.regex_lite_engine.proofs.laws.search.NumberedAnswerLemmas.{found_in_numbers}
use Rattle.regex_lite_meta.specs.Searching.{FindsSpan}
use Rattle.regex_lite_meta.proofs.slot_searcher.SlotSearcher.find.Goals as goal

module _ (graph : StoredGraph) (bytes : List ℕ) (span : ℕ × ℕ) (tree : Tree)
    (regular : IsRegular tree) (is : IsGraphOf tree graph) (start : ℕ) where
  abbrev from : ℕ
  from = search_start bytes start

  -- the span is that of the answer over numbers
  over_numbers : FindsSpan tree bytes start span
      → IsNumberedOutcome (table_of graph) (chars bytes) graph.start from (best_at (Some span) [])
  over_numbers (slots, (found, answer, tells)) = (
    found,
    found_in_numbers tree (chars bytes) (table_of graph) graph.start is.name is.written is.start
        regular from found answer,
    tells.start,
    tells.end,
    λ k slot at. absurd cc,
  )

  -- what is found over numbers from there is the same, with its slots
  over_tree : FindsSpan tree bytes start span → (result : Option (ℕ × ℕ)) (row : Row)
      → IsNumberedOutcome (table_of graph) (chars bytes) graph.start from (best_at result row)
      → IsSpanOutcome tree bytes start row (Some span)
  over_tree (slots, (found, answer, tells)) None row none =
      absurd (not_there (one_answer tree (chars bytes) regular from None (Some found)
      (answer_of_numbers tree (chars bytes) (table_of graph) graph.start is.name is.written is.start
      regular from None none) answer))
  over_tree (slots, (found, answer, tells)) (Some reported) row
      (second, numbered, begins, ends, held) =
      let same = same_some (one_answer tree (chars bytes) regular from (Some second) (Some found)
      (answer_of_numbers tree (chars bytes) (table_of graph) graph.start is.name is.written is.start
      regular from (Some second) numbered) answer) in (
        found,
        answer,
        record {
          start = tells.start;
          end = tells.end;
          slots = subst (λ (f : Found). HasSlots (chars bytes) row f.marks) same held;
        },
      )

pub find_in_span-requires-clause-known : goal.find_in_span-requires-clause-known
find_in_span-requires-clause-known c =
    let (tree, regular, is, (start, finds)) = c.requires.known in
    let own = c.pattern-pattern.ensures in (
      search_start c.args.haystack.now start,
      rw (own.table, own.entry)
          (over_numbers c.args.graph.now c.args.haystack.now c.args.span tree regular
          is start finds),
    )

pub find_in_span-requires-clause-finds : goal.find_in_span-requires-clause-finds
find_in_span-requires-clause-finds c = rw c.pattern-pattern.ensures.table c.requires.finds

pub returns-clause-found : goal.returns-clause-found
returns-clause-found c = λ tree regular is start finds.
    let graph = c.args.graph.now in
    let bytes = c.args.haystack.now in
    let own = c.pattern-pattern.ensures in
    over_tree graph bytes c.args.span tree regular is start finds
    c.find_in_span.result c.find_in_span.new.self.cache.best.row
    ((rw (own.table, own.entry) at c.find_in_span.ensures.found) (search_start bytes start)
    (over_numbers graph bytes c.args.span tree regular is start finds))
