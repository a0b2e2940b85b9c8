use Rattle.regex_lite.proofs.Common.{chars, subst}
use Rattle.regex_lite.specs.Scanning.{ListSearching, TellsListSpan}
use Rattle.regex_lite.proofs.string.LawfulLemmas.{patterns_lawful}
use Rattle.regex_lite.proofs.string.ListReportedLemmas.{list_span_reported, span_of_list}
use Rattle.regex_lite.proofs.string.list.searcher.ListSearcherFinds.find_at.Goals as goal

pub returns-clause-found : goal.returns-clause-found
returns-clause-found c =
    let a = c.args in
    let list = c.self.inside.list.now in
    let slots = c.search.new.self.slots in
    subst (λ (own : ListSearching). TellsListSpan own.list a.haystack.now a.start slots
    c.search.result) c.self.view_is
    (list_span_reported a.haystack.now a.start list slots c.search.result
    (span_of_list list c.self.inside.inner a.haystack.now a.start slots c.search.result
    c.self.invariant c.search.ensures.found))

pub returns-clause-lawful : goal.returns-clause-lawful
returns-clause-lawful c = patterns_lawful c.args.self.now.list (chars c.args.haystack.now)
