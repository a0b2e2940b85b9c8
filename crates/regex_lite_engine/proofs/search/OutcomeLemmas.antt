-- What a search returns: where it starts, that its counts fit, and the tree's answer by offsets.
use Rattle.regex_lite_engine.proofs.Common.{◌≡◌, ℕ, ◌+◌, ◌*◌, ◌^◌, ◌<◌, ◌≤◌, List, [], length, Some}
use Rattle.regex_lite_engine.proofs.Common.{None, IfSome, IsUtf8, Option, option_map, chars, sym}
use Rattle.regex_lite_engine.proofs.Common.{◌∙◌}
use Rattle.regex_lite_engine.proofs.Common.{subst, arith, mul-le-mul_left, mul-le-mul_right}
use Rattle.regex_lite_engine.proofs.Common.{length-map, encodes-chars, Tree, IsRegular}
use Rattle.regex_lite_engine.proofs.Common.{whole_places, whole_arrows, arrows_of, place_of}
use Rattle.regex_lite_engine.proofs.Common.{table_of, IsAnswer, characters_left, CanCount, Best}
use Rattle.regex_lite_engine.proofs.Common.{IsNumberedOutcome, position_at, search_start, Text}
use Rattle.regex_lite_engine.proofs.Common.{offset}
use Rattle.regex_lite_engine.specs.Graph.Stored.{StoredGraph}
use Rattle.regex_lite_engine.specs.Search.Counting.{IsCountable}
use Rattle.regex_lite_engine.specs.Search.NumberedAnswer.{NoneStartsBefore}
use Rattle.regex_lite_engine.specs.Search.NumberedOutcomes.{best_at, match_reported}
use Rattle.regex_lite_engine.specs.Search.Outcomes.{IsEndOutcome, IsSpanOutcome, IsOutcome}
use Rattle.std.proofs.lemmas.Str.{length-le-encodes}
use Rattle.regex_lite_engine.specs.declared.search.outcome.Outcome.{Outcome}
use Rattle.regex_lite_engine.specs.Graph.Places.{Place}
use Rattle.regex_lite_engine.specs.Graph.Renumbered.{IsGraphOf}
use Rattle.regex_lite_engine.specs.Search.Bounds.{IsBounded}
use Rattle.regex_lite_engine.specs.Search.Answer.{IsShortest}
use Rattle.regex_lite_engine.specs.Search.Rows.{Row}
use Rattle.regex_lite_engine.proofs.laws.search.NumberedAnswerLemmas.{
  IsNumberedShortest,
  answer_of_numbers,
  shortest_of_numbers,
}

-- the match has the offset of the answer to a search for the shortest match, which is where it ends
abbrev pub IsNumberedEnd : List (Place ℕ) → Text → (start s : ℕ) → Best → Type 0
IsNumberedEnd table haystack start s None = IsNumberedShortest table haystack start s None
IsNumberedEnd table haystack start s (Some best) =
    (end : ℕ) × IsNumberedShortest table haystack start s (Some end)
    × (best.1 ≡ offset haystack end)

-- the least end from a later start, before which no match starts, is the least end from here
pub end_from : (table : List (Place ℕ)) (haystack : Text) (start s m : ℕ)
    → NoneStartsBefore table haystack start s m → (best : Best)
    → IsNumberedEnd table haystack start m best → IsNumberedEnd table haystack start s best
end_from table haystack start s m before None none = λ i q j way is.
    none i q j way (record {
      from = before.least i q j way is;
      inside = is.inside;
      leads = is.leads;
    })
end_from table haystack start s m before (Some best) (end, ((i, q, way, is), least), at) =
    let low = before.from in
    let high = is.from in (
      end,
      (
        (
          i,
          q,
          way,
          record {
            from = omega (arith, low, high);
            inside = is.inside;
            leads = is.leads;
          },
        ),
        λ i' q' j way' other. least i' q' j way' (record {
          from = before.least i' q' j way' other;
          inside = other.inside;
          leads = other.leads;
        }),
      ),
      at,
    )

-- there are no more characters than bytes
pub few_chars : (bytes : List ℕ) → IsUtf8 bytes → length (chars bytes) ≤ length bytes
few_chars bytes utf8 =
    subst (λ z. length (chars bytes) ≤ length z) (encodes-chars bytes utf8)
    (length-le-encodes (chars bytes))

few_products : (a b : ℕ) → a ≤ 2 ^ 35 → b ≤ 2 ^ 64 → a * b < 2 ^ 127
few_products a b few_a few_b =
    let left : a * b ≤ a * 2 ^ 64 = mul-le-mul_left a few_b in
    let right : a * 2 ^ 64 ≤ 2 ^ 35 * 2 ^ 64 = mul-le-mul_right (2 ^ 64) few_a in
    omega (arith, left, right)

pub can_count : (table : List (Place ℕ)) (bytes : List ℕ) (s : ℕ) → IsUtf8 bytes
    → length bytes < 2 ^ 63 → IsCountable table → (patterns : ℕ) → patterns < 2 ^ 32
    → CanCount table patterns (characters_left (chars bytes) s)
can_count table bytes s utf8 short countable patterns few_patterns =
    let few = few_chars bytes utf8 in
    record {
      tries = few_products (arrows_of table + patterns) (characters_left (chars bytes) s + 1)
          (omega (arith, countable.few_arrows, few_patterns)) (omega (arith, few, short));
      entries = few_products (length table) (characters_left (chars bytes) s + 1)
          (omega (arith, countable.few_places)) (omega (arith, few, short));
    }

-- a start inside the haystack is that of a position
pub start_inside : (bytes : List ℕ) (start : ℕ) → start ≤ length bytes
    → search_start bytes start ≡ position_at bytes start
start_inside bytes start inside = omega (arith, inside)

-- what is allowed of the graph is allowed of the tree
pub cost_reported : (tree : Tree) (graph : StoredGraph) → IsGraphOf tree graph
    → (haystack : List ℕ) (start : ℕ) → start ≤ length haystack → (tried entered looked : ℕ)
    → IsBounded (length (table_of graph)) (arrows_of (table_of graph)) (chars haystack)
    (position_at haystack start) tried entered looked
    → IsBounded (whole_places tree) (whole_arrows tree) (chars haystack)
    (search_start haystack start) tried entered looked
cost_reported tree graph is haystack start inside tried entered looked bounded =
    subst
    (λ z. IsBounded (whole_places tree) (whole_arrows tree) (chars haystack) z tried entered looked)
    (sym (start_inside haystack start inside))
    (subst (λ z. IsBounded (whole_places tree) z (chars haystack)
    (position_at haystack start) tried entered looked)
    is.each_arrow
    (subst (λ z. IsBounded z (arrows_of (table_of graph)) (chars haystack)
    (position_at haystack start) tried entered looked)
    (length-map graph.places place_of ∙ is.places) bounded))

-- where a match is reported one was found, and what holds then holds
pub reported_entered : (P : Type 0) (outcome : Option Outcome) (found : Option (ℕ × ℕ)) (row : Row)
    → match_reported outcome ≡ best_at found row → IfSome found (λ _. P) → IfSome outcome (λ _. P)
reported_entered P None found row is holds = tt
reported_entered P (Some outcome) None row is holds = cc
reported_entered P (Some outcome) (Some span) row is holds = holds

module _ (tree : Tree) (regular : IsRegular tree) (graph : StoredGraph)
    (is : IsGraphOf tree graph) (haystack : List ℕ) (start : ℕ)
    (inside : start ≤ length haystack) where
  at_position : (P : ℕ → Type 0) → P (position_at haystack start)
      → P (search_start haystack start)
  at_position P p = subst P (sym (start_inside haystack start inside)) p

  pub span_reported : (span : Option (ℕ × ℕ)) (slots : List (Option ℕ))
      → IsNumberedOutcome (table_of graph) (chars haystack) graph.start
      (position_at haystack start) (best_at span slots)
      → IsSpanOutcome tree haystack start slots span
  span_reported None slots none =
      at_position (λ s. IsAnswer tree (chars haystack) s None)
      (answer_of_numbers tree (chars haystack) (table_of graph) graph.start is.name is.written
      is.start regular (position_at haystack start) None none)
  span_reported (Some span) slots (found, answer, from, to, held) = (
    found,
    at_position (λ s. IsAnswer tree (chars haystack) s (Some found))
        (answer_of_numbers tree (chars haystack) (table_of graph) graph.start is.name
        is.written is.start regular (position_at haystack start) (Some found) answer),
    record { start = from; end = to; slots = held },
  )

  pub answer_reported : (outcome : Option Outcome)
      → IsNumberedOutcome (table_of graph) (chars haystack) graph.start
      (position_at haystack start) (match_reported outcome)
      → IsOutcome tree haystack start outcome
  answer_reported None none = span_reported None [] none
  answer_reported (Some outcome) some =
      span_reported (Some (outcome.start, outcome.end)) outcome.slots.items some

  pub end_reported : (best : Best)
      → IsNumberedEnd (table_of graph) (chars haystack) graph.start
      (position_at haystack start) best
      → IsEndOutcome tree haystack start (option_map (λ z. z.1) best)
  end_reported None none =
      at_position (λ s. IsShortest tree (chars haystack) s None)
      (shortest_of_numbers tree (chars haystack) (table_of graph) graph.start is.name
      is.written is.start regular (position_at haystack start) None none)
  end_reported (Some best) (end, shortest, to) = (
    end,
    at_position (λ s. IsShortest tree (chars haystack) s (Some end))
        (shortest_of_numbers tree (chars haystack) (table_of graph) graph.start is.name
        is.written is.start regular (position_at haystack start) (Some end) shortest),
    to,
  )
