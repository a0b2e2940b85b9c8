use Rattle.regex_lite_meta.proofs.Common.{◌^◌, ◌<◌, [], ◌∷◌, length, chars, sym, subst, arith}
use Rattle.regex_lite_meta.proofs.Common.{rules, places_of, IsBestOutcomeOf, position_at}
use Rattle.regex_lite_meta.proofs.Common.{span_reported}
use Rattle.regex_lite_meta.proofs.lazy_dfa.OnceLemmas.{spanned}
use Rattle.regex_lite_meta.proofs.lazy_dfa.RunLemmas.{all_everywhere}
use Rattle.regex_lite_engine.proofs.search.OutcomeLemmas.{can_count}
use Rattle.regex_lite_meta.proofs.lazy_dfa.automaton.LazyDfa.find_span.Goals as goal

pub find-requires-clause-on : goal.find-requires-clause-on
find-requires-clause-on c =
    let haystack = c.args.haystack.now in
    let s = position_at haystack c.args.start in
    let short : length haystack < 2 ^ 63 = search rules in
    can_count (places_of c.args.pattern.now.table.now) haystack s c.utf8.haystack short
    c.requires.countable 1 (omega arith)

pub find-requires-clause-all : goal.find-requires-clause-all
find-requires-clause-all c = all_everywhere c.args.pattern.now c.requires.all

pub returns-clause-found : goal.returns-clause-found
returns-clause-found c =
    let one = c.args.pattern.now in
    let table = places_of one.table.now in
    let haystack = chars c.args.haystack.now in
    let s = position_at c.args.haystack.now c.args.start in
    subst (λ span. IsBestOutcomeOf table haystack (one.entry ∷ []) s (span_reported span))
    (sym c.span_of.ensures)
    (spanned table haystack (one.entry ∷ []) s c.find.result [] c.find.ensures.found)
