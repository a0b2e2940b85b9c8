-- Whether a pattern matches, which any of its matches and the least of their ends tell.
use Rattle.regex_lite_meta.proofs.Common.{◌<◌, ◌≤◌, ℕ, List, [], ◌∷◌, Some, None, Option, refl}
use Rattle.regex_lite_meta.proofs.Common.{IsNumberedEndOf, Row, best_at, chars, length, position_at}
use Rattle.regex_lite_meta.proofs.Common.{subst, sym, table_of, table_of_list}
use Rattle.std.specs.Prelude.{◌↔◌, Bool, IsTrue, is_some}
use Rattle.regex_lite_syntax.specs.Tree.{Tree}
use Rattle.regex_lite_syntax.specs.Tree.Regular.{IsRegular}
use Rattle.regex_lite_engine.specs.Graph.Places.{Place}
use Rattle.regex_lite_engine.specs.Graph.Renumbered.{IsGraphOf}
use Rattle.regex_lite_engine.specs.Graph.SideBySide.{AreRegularPatterns}
use Rattle.regex_lite_engine.specs.Graph.Stored.{StoredGraph}
use Rattle.regex_lite_engine.specs.Graph.StoredList.{IsGraphOfList, StoredList}
use Rattle.regex_lite_engine.specs.Graph.WrittenOut.{start_address, written_out}
use Rattle.regex_lite_engine.specs.Search.Answer.{HasMatchFrom}
use Rattle.regex_lite_engine.specs.Search.AnswerOfList.{AnyMatchesFrom}
use Rattle.regex_lite_engine.specs.Search.NumberedOutcomes.{IsNumberedOutcome, match_reported}
use Rattle.regex_lite_engine.specs.Search.Offsets.{search_start}
use Rattle.regex_lite_engine.specs.Search.OutcomeOfOne.{ending_at}
use Rattle.regex_lite_engine.specs.declared.search.outcome.Outcome.{Outcome}
use Rattle.regex_lite_engine.proofs.laws.search.NumberedAnswerLemmas.{match_of_numbers}
use Rattle.regex_lite_engine.proofs.laws.search.NumberedAnswerLemmas.{numbered_match}
use Rattle.regex_lite_engine.proofs.laws.search.NumberedWayLemmas.{whole_number, whole_part}
use Rattle.regex_lite_engine.proofs.laws.several.NumberedListLemmas.{any_numbered, any_of_numbers}
use Rattle.regex_lite_engine.proofs.search.OutcomeLemmas.{start_inside}
use Rattle.regex_lite_meta.specs.AnyOfOne.{HasMatchOfAny}
use Rattle.regex_lite_meta.proofs.EndLemmas.{own_match}

module _ (table : List (Place ℕ)) (bytes : List ℕ) (entry start : ℕ) where
  abbrev pub HasOwn : Type 0
  HasOwn = HasMatchOfAny table (chars bytes) (entry ∷ []) (position_at bytes start)

  -- the most preferred match tells
  pub by_match : (best : Option (ℕ × ℕ × Row))
      → IsNumberedOutcome table (chars bytes) entry (position_at bytes start) best
      → IsTrue (is_some best) ↔ HasOwn
  by_match None none = (
    λ yes. cc,
    λ (i, k, way, q, j, m).
        absurd (none i q j way
        (own_match table (chars bytes) entry (position_at bytes start) i k way q j m)),
  )
  by_match (Some best) (found, is, from, to, held) = (
    λ yes. (
      found.start,
      0,
      is.way,
      is.last,
      found.end,
      record {
        entry = entry;
        is_entry = refl;
        is_match = record { from = is.from; inside = is.inside; leads = is.is_way };
      },
    ),
    λ has. refl,
  )

  pub by_outcome : (outcome : Option Outcome)
      → IsNumberedOutcome table (chars bytes) entry (position_at bytes start)
      (match_reported outcome) → IsTrue (is_some outcome) ↔ HasOwn
  by_outcome None none = by_match None none
  by_outcome (Some outcome) is = by_match (match_reported (Some outcome)) is

  pub by_span : (span : Option (ℕ × ℕ))
      → IsNumberedOutcome table (chars bytes) entry (position_at bytes start) (best_at span [])
      → IsTrue (is_some span) ↔ HasOwn
  by_span None none = by_match None none
  by_span (Some span) is = by_match (best_at (Some span) []) is

  -- and so does the least end
  pub by_end : (end : Option ℕ)
      → IsNumberedEndOf table (chars bytes) (entry ∷ []) (position_at bytes start) (ending_at end)
      → IsTrue (is_some end) ↔ HasOwn
  by_end None none = (λ yes. cc, λ (i, k, way, q, j, m). absurd (none i k way q j m))
  by_end (Some end) (j, shortest, at) = (
    λ yes. (
      shortest.start,
      shortest.number,
      shortest.way,
      shortest.last,
      j,
      shortest.is_match,
    ),
    λ has. refl,
  )

-- a pattern has a match in the numbers of its graph as its tree has one
module _ (tree : Tree) (regular : IsRegular tree) (graph : StoredGraph)
    (is : IsGraphOf tree graph) (bytes : List ℕ) (start : ℕ) (inside : start ≤ length bytes) where
  abbrev table : List (Place ℕ)
  table = table_of graph

  abbrev s : ℕ
  s = position_at bytes start

  there : HasMatchOfAny table (chars bytes) (graph.start ∷ []) s → HasMatchFrom tree (chars bytes) s
  there (i, k, way, q, j, m) = (
    i,
    j,
    match_of_numbers tree (chars bytes) table graph.start is.name (λ q. q < length table)
        (whole_part (written_out tree) is.name table is.written)
        (whole_number is.name table start_address graph.start is.start) regular s i q j way
        (own_match table (chars bytes) graph.start s i k way q j m),
  )

  back : HasMatchFrom tree (chars bytes) s → HasMatchOfAny table (chars bytes) (graph.start ∷ []) s
  back (i, j, m) =
      let (q, way, n) = numbered_match tree (chars bytes) table graph.start is.name
      (λ q. q < length table) (whole_part (written_out tree) is.name table is.written)
      (whole_number is.name table start_address graph.start is.start) regular s i j m in
      (i, 0, way, q, j, record { entry = graph.start; is_entry = refl; is_match = n })

  pub any_of_tree : (reported : Bool)
      → (IsTrue reported ↔ HasMatchOfAny table (chars bytes) (graph.start ∷ []) s)
      → IsTrue reported ↔ HasMatchFrom tree (chars bytes) (search_start bytes start)
  any_of_tree reported both =
      subst (λ s. IsTrue reported ↔ HasMatchFrom tree (chars bytes) s)
      (sym (start_inside bytes start inside))
      (λ yes. there (both.0 yes), λ has. both.1 (back has))

-- and patterns in those of their list
module _ (trees : List Tree) (list : StoredList) (is : IsGraphOfList trees list)
    (bytes : List ℕ) (start : ℕ) (inside : start ≤ length bytes)
    (regular : AreRegularPatterns trees) where
  abbrev all : List (Place ℕ)
  all = table_of_list list

  abbrev from : ℕ
  from = position_at bytes start

  any_there : HasMatchOfAny all (chars bytes) list.entries from
      → AnyMatchesFrom trees (chars bytes) from
  any_there (i, k, way, q, j, m) =
      let (tree, known, match) = any_of_numbers trees (chars bytes) all list.entries is.name
      is.written is.entries regular from i k way q j m in
      (k, tree, known, (i, j, match))

  any_back : AnyMatchesFrom trees (chars bytes) from
      → HasMatchOfAny all (chars bytes) list.entries from
  any_back (k, tree, known, (i, j, m)) =
      let (q, way, n) = any_numbered trees (chars bytes) all list.entries is.name is.written
      is.entries regular from k i j tree known m in
      (i, k, way, q, j, n)

  pub any_of_trees : (reported : Bool)
      → (IsTrue reported ↔ HasMatchOfAny all (chars bytes) list.entries from)
      → IsTrue reported ↔ AnyMatchesFrom trees (chars bytes) (search_start bytes start)
  any_of_trees reported both =
      subst (λ s. IsTrue reported ↔ AnyMatchesFrom trees (chars bytes) s)
      (sym (start_inside bytes start inside))
      (λ yes. any_there (both.0 yes), λ has. both.1 (any_back has))
