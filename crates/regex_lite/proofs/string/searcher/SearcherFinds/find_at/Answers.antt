use Rattle.regex_lite.proofs.Common.{Some, None, chars, sym, subst, RegexSearching}
use Rattle.regex_lite_engine.specs.Graph.Stored.{StoredGraph}
use Rattle.regex_lite_meta.specs.Searching.{SearchesGraph, row_of_graph}
use Rattle.regex_lite.specs.Scanning.{TellsSpan}
use Rattle.regex_lite.proofs.string.LawfulLemmas.{regex_lawful}
use Rattle.regex_lite.proofs.string.ReportedLemmas.{of_held, span_reported}
use Rattle.regex_lite.proofs.string.searcher.SearcherFinds.find_at.Goals as goal

pub returns-in_err-span-clause-found : goal.returns-in_err-span-clause-found
returns-in_err-span-clause-found c =
    let a = c.args in
    let regex = c.self.inside.regex.pattern in
    let slots = row_of_graph c.search.new.self in
    let none : TellsSpan regex a.haystack.now a.start slots None =
    of_held c.self.inside.regex c.graph.ensures.built c.graph.result.now c.graph.ensures.same _
    c.in_err-span.ensures.found in
    subst (λ (own : RegexSearching). TellsSpan own.regex a.haystack.now a.start slots
    c.from_residual.result) c.self.view_is
    (subst (TellsSpan regex a.haystack.now a.start slots) (sym c.from_residual.ensures) none)

pub returns-in_err-span-clause-lawful : goal.returns-in_err-span-clause-lawful
returns-in_err-span-clause-lawful c = regex_lawful c.args.self.now.regex (chars c.args.haystack.now)

pub returns-clause-found : goal.returns-clause-found
returns-clause-found c =
    let a = c.args in
    let regex = c.self.inside.regex.pattern in
    let slots = row_of_graph c.search.new.self in
    let span = c.in_ok-span.span in
    subst (λ (own : RegexSearching). TellsSpan own.regex a.haystack.now a.start slots
    (Some (tt {0}, span))) c.self.view_is
    (span_reported a.haystack.now c.utf8.haystack a.start regex span slots
    (of_held c.self.inside.regex c.graph.ensures.built c.graph.result.now c.graph.ensures.same _
    c.in_ok-span.ensures.found))

pub returns-clause-lawful : goal.returns-clause-lawful
returns-clause-lawful c = regex_lawful c.args.self.now.regex (chars c.args.haystack.now)

pub search-requires-clause-searches : goal.search-requires-clause-searches
search-requires-clause-searches c =
    subst (λ (graph : StoredGraph). SearchesGraph graph c.self.inside.inner)
    (sym c.graph.ensures.same) c.self.invariant

pub invariant_of-self : goal.invariant_of-self
invariant_of-self c =
    subst (λ (graph : StoredGraph). SearchesGraph graph c.search.new.self) c.graph.ensures.same
    c.search.ensures.searches
