use Rattle.std.specs.Prelude.{◌↔◌, IsTrue}
use Rattle.regex_lite_meta.proofs.Common.{chars, position_at, subst, sym}
use Rattle.regex_lite_engine.specs.Search.Answer.{HasMatchFrom}
use Rattle.regex_lite_engine.proofs.nfa.BoundaryLemmas.{on_boundary}
use Rattle.regex_lite_engine.proofs.search.OutcomeLemmas.{start_inside}
use Rattle.regex_lite_meta.proofs.list_matches.WhichLemmas.{reported_of_tree}
use Rattle.regex_lite_meta.proofs.listed.search_listed_any.Goals as goal

pub search_any_one-requires-clause-boundary : goal.search_any_one-requires-clause-boundary
search_any_one-requires-clause-boundary c =
    on_boundary _ _ c.requires.start c.if-start-haystack.false

pub returns : goal.returns
returns c = λ trees tree regular is there.
    let own = c.pattern-pattern.ensures in
    let haystack = c.args.haystack.now in
    let start = c.args.start in
    subst (λ s. IsTrue c.in_ok-found.found ↔ HasMatchFrom tree (chars haystack) s)
    (sym (start_inside haystack start c.if-start-haystack.false))
    (reported_of_tree c.args.list.now haystack (position_at haystack start) trees regular is
    c.args.number tree there c.in_ok-found.found c.requires.number
    (rw (own.table, own.entry) at c.in_ok-found.ensures.found))
