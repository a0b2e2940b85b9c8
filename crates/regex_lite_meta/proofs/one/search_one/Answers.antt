use Rattle.regex_lite_meta.proofs.Common.{places_of, subst, sym}
use Rattle.std.specs.Result.{IfOk}
use Rattle.std.proofs.lemmas.Result.{IfOk-weaker}
use Rattle.regex_lite_engine.specs.Search.OutcomeOfOne.{TellsOfOne}
use Rattle.regex_lite_meta.proofs.EndLemmas.{found_from_later}
use Rattle.regex_lite_meta.proofs.one.search_one.Goals as goal

pub returns-in-Some-search_start : goal.returns-in-Some-search_start
returns-in-Some-search_start c =
    let one = c.args.pattern.now in
    let table = places_of one.table.now in
    let haystack = c.args.haystack.now in
    let reported = c.search_by_dfa.result in
    let first = c.in-Some-search_start.first in
    subst (λ slots. IfOk reported (TellsOfOne table one.entry haystack c.args.start slots))
    (sym (c.choose.ensures.slots c.in-LazyDfa.is))
    (IfOk-weaker reported (TellsOfOne table one.entry haystack first 0)
    (TellsOfOne table one.entry haystack c.args.start 0)
    (λ reported. found_from_later table haystack one.entry c.args.start first 0 reported
    c.in-Some-search_start.ensures.least) c.search_by_dfa.ensures)
