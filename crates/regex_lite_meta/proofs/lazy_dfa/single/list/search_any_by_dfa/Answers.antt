use Rattle.std.specs.Prelude.{◌↔◌, IsTrue}
use Rattle.regex_lite_meta.proofs.Common.{[], chars, sym, ◌∙◌, subst, best_reported}
use Rattle.regex_lite_engine.specs.Search.AnswerOfList.{AnyMatchesFrom}
use Rattle.regex_lite_engine.specs.Search.Offsets.{search_start}
use Rattle.regex_lite_engine.proofs.search.ListOutcomeLemmas.{any_reported}
use Rattle.regex_lite_meta.proofs.lazy_dfa.ScanLemmas.{some_kept}
use Rattle.regex_lite_meta.proofs.lazy_dfa.single.list.search_any_by_dfa.Goals as goal

pub returns-clause-found : goal.returns-clause-found
returns-clause-found c = λ trees regular is.
    let list = c.args.list.now in
    let haystack = c.args.haystack.now in
    let found = c.in_ok-found.found in
    let reported = any_reported trees list is haystack c.args.start c.requires.boundary.0 regular
    (best_reported found) c.in_ok-found.ensures.found in
    subst (λ some. IsTrue some
    ↔ AnyMatchesFrom trees (chars haystack) (search_start haystack c.args.start))
    (sym (c.is_some.ensures ∙ some_kept found [])) reported
