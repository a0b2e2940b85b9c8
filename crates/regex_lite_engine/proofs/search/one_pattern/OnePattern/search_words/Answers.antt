use Rattle.regex_lite_engine.proofs.Common.{◌+◌, ap, arith, arrows_of, chars, IsNumberedOutcome}
use Rattle.regex_lite_engine.proofs.Common.{length, places_of, position_at, Some, subst, sym}
use Rattle.regex_lite_engine.proofs.Common.{refl}
use Rattle.regex_lite_engine.specs.Graph.Parts.{row_of}
use Rattle.regex_lite_syntax.specs.Prefilter.WholeWords.{IsNextSpan}
use Rattle.regex_lite_engine.proofs.PositionLemmas.{position_is}
use Rattle.regex_lite_engine.proofs.search.WordSearchLemmas.{entered, one_entry}
use Rattle.regex_lite_engine.proofs.search.one_pattern.OnePattern.search_words.Goals as goal

pub returns-clause-reported : goal.returns-clause-reported
returns-clause-reported c =
    let one = c.args.self.now in
    let table = places_of one.table.now in
    let bytes = c.args.haystack.now in
    let start = c.args.start in
    let s = position_at bytes start in
    let from = c.in-Some.from in
    let end = c.in-Some.end in
    let next : IsNextSpan c.in_ok-words.words.now bytes start (Some (from, end)) =
    subst (λ bs. IsNextSpan c.in_ok-words.words.now bs start (Some (from, end)))
    c.as_bytes.ensures.value c.in-Some.ensures in
    let answer = c.in_ok-words.ensures.found bytes start (Some (from, end)) c.utf8.haystack
    c.requires.boundary next in
    record {
      found = subst
          (λ row. IsNumberedOutcome table (chars bytes) one.entry s (Some (from, end, row)))
          (sym c.new.ensures.items) answer;
      slots = ap length c.new.ensures.items;
      cost = one_entry (length table) (arrows_of table + 1) (chars bytes) s
          c.steps_of_match.result (omega (arith, one.inside)) (omega arith)
          (position_is bytes start c.utf8.haystack c.requires.boundary).0 c.steps_of_match.ensures;
      entered = entered c.steps_of_match.result c.steps_of_match.ensures;
    }

pub returns-clause-own : goal.returns-clause-own
returns-clause-own c = λ low len part.
    let one = c.args.self.now in
    let bytes = c.args.haystack.now in
    let entry = part.entered 0 one.entry refl in
    one_entry len (arrows_of (row_of (places_of one.table.now) low len) + 1) (chars bytes)
    (position_at bytes c.args.start) c.steps_of_match.result
    (omega (arith, entry.0, entry.1)) (omega arith)
    (position_is bytes c.args.start c.utf8.haystack c.requires.boundary).0
    c.steps_of_match.ensures
