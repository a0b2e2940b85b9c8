use Rattle.regex_lite_meta.proofs.Common.{◌≡◌, best_at, chars, length, nil_from_length, places_of}
use Rattle.regex_lite_meta.proofs.Common.{position_at, refl, rules, subst, sym}
use Rattle.regex_lite_engine.specs.Search.NumberedOutcomes.{IsNumberedOutcome}
use Rattle.regex_lite_syntax.specs.Prefilter.WholeWords.{IsNextSpan}
use Rattle.regex_lite_meta.proofs.pattern_searcher.PatternSearcher.find.Goals as goal

pub returns-in-Some : goal.returns-in-Some
returns-in-Some c =
    let one = c.args.pattern.now in
    let bytes = c.args.haystack.now in
    let start = c.args.start in
    let row = c.args.self.now.memory.cache.best.row in
    let none : length row ≡ 0 = search rules in
    let span = c.find_span.result in
    let next : IsNextSpan c.in-Some.words.now bytes start span =
    subst (λ bs. IsNextSpan c.in-Some.words.now bs start span) c.as_bytes.ensures.value
    c.find_span.ensures in
    record {
      found = subst (λ row. IsNumberedOutcome (places_of one.table.now) (chars bytes) one.entry
          (position_at bytes start) (best_at span row)) (sym (nil_from_length row none))
          (c.in-Some.ensures.found bytes start span c.utf8.haystack c.requires.boundary next);
      searches = c.requires.searches;
      slots = refl;
    }
