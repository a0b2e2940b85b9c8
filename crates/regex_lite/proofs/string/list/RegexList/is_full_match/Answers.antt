use Rattle.regex_lite.proofs.Common.{inr, IsCharBoundary-start}
use Rattle.regex_lite.proofs.Common.{sym, ap, subst, IsGraphOfList, CompiledList}
use Rattle.regex_lite.proofs.string.WholeLemmas.{any_reported_whole}
use Rattle.regex_lite.proofs.string.list.RegexList.is_full_match.Goals as goal

pub returns-clause-found : goal.returns-clause-found
returns-clause-found c =
    let built = c.self.invariant in
    let graph = ap (λ (compiled : CompiledList). compiled.graph) c.deref.ensures in
    any_reported_whole c.args.haystack.now c.utf8.haystack c.args.self.now
    c.in_ok-found.found (
      built.trees,
      rw (← c.self.view_is) built.given,
      c.in_ok-found.ensures.found built.trees built.regular
          (subst (IsGraphOfList built.trees) (sym graph) built.graph),
    )

pub search_any_anchored-requires : goal.search_any_anchored-requires
search_any_anchored-requires c = inr (IsCharBoundary-start _ c.utf8.haystack)
