use Rattle.regex_lite_meta.proofs.Common.{IfSome, None, best_at, chars, refl, sym, ◌∙◌, subst}
use Rattle.regex_lite_meta.proofs.Common.{nil_from_length, places_of, position_at, span_reported}
use Rattle.regex_lite_meta.proofs.Common.{with_start_kept}
use Rattle.regex_lite_meta.specs.Slots.{FindsShortSlots}
use Rattle.regex_lite_engine.proofs.pikevm.EndLemmas.{one_best}
use Rattle.regex_lite_engine.proofs.search.FirstStartLemmas.{answer_from, none_from}
use Rattle.regex_lite_meta.proofs.pattern_searcher.PatternSearcher.find_in_graph.Goals as goal

pub returns-in-Some : goal.returns-in-Some
returns-in-Some c =
    let one = c.args.pattern.now in
    let table = places_of one.table.now in
    let haystack = c.args.haystack.now in
    let reported = c.find_span.ensures in
    let m = position_at haystack c.in_ok-first.first in
    let width = reported.between.best_width ∙ reported.width in
    let before = rw c.in-Some.is at c.requires.searches.dfa in record {
      found = rw (nil_from_length c.find_span.new.cache.best.row width)
          (answer_from table (chars haystack) one.entry (position_at haystack c.args.start) m
          c.in_ok-first.ensures.least (span_reported c.find_span.result)
          (one_best table (chars haystack) one.entry m (span_reported c.find_span.result)
          reported.found));
      searches = record {
        memory = record {
          between = reported.between;
          countable = c.requires.searches.memory.countable;
          short =
              subst (λ slots. IfSome c.args.self.now.memory.short
              (λ boxed. FindsShortSlots table slots boxed.value))
              (before.1 ∙ sym width) c.requires.searches.memory.short;
        };
        dfa = (reported.is_dfa, width);
        spans = c.requires.searches.spans;
      };
      slots = width ∙ sym before.1;
    }

pub returns-in_err-span-clause-found : goal.returns-in_err-span-clause-found
returns-in_err-span-clause-found c =
    let one = c.args.pattern.now in
    let haystack = c.args.haystack.now in
    rw c.from_residual-in_err-span.ensures
    (answer_from (places_of one.table.now) (chars haystack) one.entry
    (position_at haystack c.args.start) (position_at haystack c.in_ok-first.first)
    c.in_ok-first.ensures.least None c.in_err-span.ensures.found)

pub returns-in_err-first-clause-found : goal.returns-in_err-first-clause-found
returns-in_err-first-clause-found c =
    let one = c.args.pattern.now in
    rw c.from_residual.ensures
    (none_from (places_of one.table.now) (chars c.args.haystack.now) one.entry
    (position_at c.args.haystack.now c.args.start) (c.in_err-first.ensures.none refl))

pub find_in_span-requires-clause-known : goal.find_in_span-requires-clause-known
find_in_span-requires-clause-known c =
    (position_at c.args.haystack.now c.in_ok-first.first, c.in_ok-span.ensures.found)

pub returns : goal.returns
returns c =
    let one = c.args.pattern.now in
    let haystack = c.args.haystack.now in
    let m = position_at haystack c.in_ok-first.first in record {
      found = answer_from (places_of one.table.now) (chars haystack) one.entry
          (position_at haystack c.args.start) m c.in_ok-first.ensures.least
          (with_start_kept (best_at c.find_in_span.result c.find_in_span.new.self.cache.best.row))
          (c.find_in_span.ensures.found m c.in_ok-span.ensures.found);
      searches = record {
        memory = c.find_in_span.ensures.finds;
        dfa = rw c.find_in_span.ensures.width c.requires.searches.dfa;
        spans = c.find.ensures.finds;
      };
      slots = c.find_in_span.ensures.width;
    }
