use Rattle.regex_lite_engine.proofs.Common.{◌+◌, ◌<◌, ◌≤◌, ℕ, [], ap, arith, arrows_of, chars}
use Rattle.regex_lite_engine.proofs.Common.{length, None, position_at, Some}
use Rattle.regex_lite_engine.proofs.Common.{subst, sym, table_of_list}
use Rattle.regex_lite_engine.proofs.Common.{slice_get_within}
use Rattle.std.specs.List.{All}
use Rattle.regex_lite_syntax.specs.Prefilter.NumberedWords.{IsNextOfPatterns}
use Rattle.regex_lite_engine.specs.Search.NumberedOutcomes.{IsBestOutcomeOf, numbered_at}
use Rattle.regex_lite_engine.specs.Search.NumberedOutcomes.{with_match_start_kept}
use Rattle.regex_lite_engine.proofs.PositionLemmas.{position_is}
use Rattle.regex_lite_engine.proofs.search.ListOutcomeLemmas.{cost_of_list, has_place}
use Rattle.regex_lite_engine.proofs.search.ListOutcomeLemmas.{outcome_reported}
use Rattle.regex_lite_engine.proofs.search.WordSearchLemmas.{entered, one_entry}
use Rattle.regex_lite_engine.proofs.nfa.list.GraphList.search_words.Goals as goal

pub returns-in-None-clause-found : goal.returns-in-None-clause-found
returns-in-None-clause-found c = λ trees regular is.
    let bytes = c.args.haystack.now in
    let start = c.args.start in
    let words = c.in_ok-words.words.now in
    let next : IsNextOfPatterns words bytes start None =
    subst (λ bs. IsNextOfPatterns words bs start None) c.as_bytes.ensures.value
    c.in-None.ensures in
    outcome_reported trees c.args.self.now is bytes start c.requires.boundary.0 regular None
    (c.in_ok-words.ensures.next bytes start None c.utf8.haystack c.requires.boundary next)

pub returns-in-Some : goal.returns-in-Some
returns-in-Some c =
    let list = c.args.self.now in
    let table = table_of_list list in
    let bytes = c.args.haystack.now in
    let start = c.args.start in
    let s = position_at bytes start in
    let reported : ℕ × (ℕ × ℕ) = (c.in-Some.number, (c.in-Some.from, c.in-Some.end)) in
    let next : IsNextOfPatterns c.in_ok-words.words.now bytes start (Some reported) =
    subst (λ bs. IsNextOfPatterns c.in_ok-words.words.now bs start (Some reported))
    c.as_bytes.ensures.value c.in-Some.ensures in
    let answer : IsBestOutcomeOf table (chars bytes) list.entries s
    (with_match_start_kept (numbered_at (Some reported) [])) =
    c.in_ok-words.ensures.next bytes start (Some reported) c.utf8.haystack c.requires.boundary
    next in
    let some : 0 < length list.entries =
    let within = slice_get_within list.entries answer.0 answer.2.entry answer.2.is_entry in
    omega (arith, within) in
    let inside : start ≤ length bytes = c.requires.boundary.0 in
    let steps = c.steps_of_match.result in
    let row : IsBestOutcomeOf table (chars bytes) list.entries s
    (with_match_start_kept (numbered_at (Some reported) c.new.result.items)) =
    subst (λ row. IsBestOutcomeOf table (chars bytes) list.entries s
    (with_match_start_kept (numbered_at (Some reported) row))) (sym c.new.ensures.items) answer in
    let places : 0 < length table =
    has_place (length table) list.entries
    (subst (All (λ entry. entry < length table)) c.entries-entries.ensures.same
    c.entries-entries.ensures.inside) some in
    record {
      found = λ trees regular is. outcome_reported trees list is bytes start inside regular
          (Some (
            c.in-Some.number,
            record {
              start = c.in-Some.from;
              end = c.in-Some.end;
              slots = c.new.result;
            },
          )) row;
      slots = ap length c.new.ensures.items;
      cost = λ trees is. cost_of_list trees list is bytes start inside steps
          (one_entry (length table) (arrows_of table + length list.entries) (chars bytes) s steps
          places (omega (arith, some))
          (position_is bytes start c.utf8.haystack c.requires.boundary).0
          c.steps_of_match.ensures);
      entered = entered steps c.steps_of_match.ensures;
    }
