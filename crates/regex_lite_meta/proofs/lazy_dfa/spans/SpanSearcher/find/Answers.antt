use Rattle.regex_lite_meta.proofs.Common.{◌^◌, ◌<◌, [], ◌∷◌, length, chars, arith, rules, places_of}
use Rattle.regex_lite_meta.proofs.Common.{best_at, nil_from_length, position_at, span_of}
use Rattle.regex_lite_meta.proofs.Common.{span_reported, ◌∙◌, with_start_kept, subst}
use Rattle.regex_lite_meta.proofs.Common.{IsBestOutcomeOf, best_kept}
use Rattle.regex_lite_meta.proofs.lazy_dfa.OnceLemmas.{spanned}
use Rattle.regex_lite_engine.proofs.pikevm.EndLemmas.{one_best}
use Rattle.regex_lite_engine.proofs.search.OutcomeLemmas.{can_count}
use Rattle.regex_lite_meta.proofs.lazy_dfa.spans.SpanSearcher.find.Goals as goal

pub returns-in-Some-clause-found : goal.returns-in-Some-clause-found
returns-in-Some-clause-found c =
    let one = c.args.pattern.now in
    let haystack = c.args.haystack.now in
    one_best (places_of one.table.now) (chars haystack) one.entry
    (position_at haystack c.args.start) (span_reported c.find_span.result) c.find_span.ensures.found

pub run-requires-clause-counts : goal.run-requires-clause-counts
run-requires-clause-counts c =
    let haystack = c.args.haystack.now in
    let short : length haystack < 2 ^ 63 = search rules in
    can_count (places_of c.args.pattern.now.table.now) haystack (position_at haystack c.args.start)
    c.utf8.haystack short c.requires.finds.countable 1 (omega arith)

pub run-requires-clause-fresh : goal.run-requires-clause-fresh
run-requires-clause-fresh c =
    c.restart.ensures.fresh (places_of c.args.pattern.now.table.now) c.requires.finds.between

pub returns-clause-found : goal.returns-clause-found
returns-clause-found c =
    let one = c.args.pattern.now in
    let table = places_of one.table.now in
    let haystack = chars c.args.haystack.now in
    let s = position_at c.args.haystack.now c.args.start in
    let row = c.run.new.cache.best.row in
    rw c.span_of.ensures
    (one_best table haystack one.entry s
    (with_start_kept (best_at (span_of c.found.result) []))
    (spanned table haystack (one.entry ∷ []) s c.found.result []
    (subst (λ row. IsBestOutcomeOf table haystack (one.entry ∷ []) s (best_kept c.found.result row))
    (nil_from_length row (c.run.ensures.width ∙ c.restart.ensures.width
    ∙ c.requires.finds.between.best_width ∙ c.requires.finds.width))
    (rw c.found.ensures at c.run.ensures.found))))
