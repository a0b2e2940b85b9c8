use Rattle.regex_lite.proofs.Common.{sym, ap, subst, IsGraphOfList, CompiledList}
use Rattle.regex_lite.proofs.string.ListAnchoredLemmas.{any_reported_there}
use Rattle.regex_lite.proofs.string.list.RegexList.is_match_anchored_at.Goals as goal

pub returns-clause-found : goal.returns-clause-found
returns-clause-found c =
    let built = c.self.invariant in
    let graph = ap (λ (compiled : CompiledList). compiled.graph) c.deref.ensures in
    any_reported_there c.args.haystack.now c.utf8.haystack c.args.start c.requires c.args.self.now
    c.in_ok-found.found (
      built.trees,
      rw (← c.self.view_is) built.given,
      c.in_ok-found.ensures.found built.trees built.regular
          (subst (IsGraphOfList built.trees) (sym graph) built.graph),
    )
