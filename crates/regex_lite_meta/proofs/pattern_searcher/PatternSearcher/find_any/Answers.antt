use Rattle.regex_lite_meta.proofs.Common.{places_of, refl, subst}
use Rattle.regex_lite_syntax.specs.Prefilter.WholeWords.{IsNextSpan}
use Rattle.regex_lite_meta.proofs.AnyLemmas.{by_end, by_span}
use Rattle.regex_lite_meta.proofs.pattern_searcher.PatternSearcher.find_any.Goals as goal

pub returns-in-Some : goal.returns-in-Some
returns-in-Some c =
    let one = c.args.pattern.now in
    let bytes = c.args.haystack.now in
    let start = c.args.start in
    let span = c.find_span.result in
    let next : IsNextSpan c.in-Some.words.now bytes start span =
    subst (λ bs. IsNextSpan c.in-Some.words.now bs start span) c.as_bytes.ensures.value
    c.find_span.ensures in
    record {
      found = rw c.is_some.ensures
          (by_span (places_of one.table.now) bytes one.entry start span
          (c.in-Some.ensures.found bytes start span c.utf8.haystack c.requires.boundary next));
      searches = c.requires.searches;
      slots = refl;
    }

pub returns-clause-found : goal.returns-clause-found
returns-clause-found c =
    let one = c.args.pattern.now in
    rw c.is_some-2.ensures
    (by_end (places_of one.table.now) c.args.haystack.now one.entry c.args.start
    c.find_end.result c.find_end.ensures.found)
