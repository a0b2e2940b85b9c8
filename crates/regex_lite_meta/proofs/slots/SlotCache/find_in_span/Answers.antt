use Rattle.regex_lite_meta.proofs.Common.{chars, places_of, best_at, with_start_kept, position_at}
use Rattle.regex_lite_engine.proofs.search.FirstStartLemmas.{answer_from}
use Rattle.regex_lite_meta.proofs.lazy_dfa.SpanLemmas.{boundary, none_before}
use Rattle.regex_lite_meta.proofs.slots.SlotCache.find_in_span.Goals as goal

pub find_from-requires-clause-boundary : goal.find_from-requires-clause-boundary
find_from-requires-clause-boundary c =
    let pattern = c.args.pattern.now in
    boundary (places_of pattern.table.now) pattern.entry c.args.haystack.now c.utf8.haystack
    c.requires.known.0 c.args.span c.requires.known.1

pub returns-clause-found : goal.returns-clause-found
returns-clause-found c = λ s known.
    let pattern = c.args.pattern.now in
    let table = places_of pattern.table.now in
    let haystack = c.args.haystack.now in
    answer_from table (chars haystack) pattern.entry s (position_at haystack c.args.span.0)
    (none_before table pattern.entry haystack c.utf8.haystack s c.args.span known)
    (with_start_kept (best_at c.find_from.result c.find_from.new.self.cache.best.row))
    c.find_from.ensures.found
