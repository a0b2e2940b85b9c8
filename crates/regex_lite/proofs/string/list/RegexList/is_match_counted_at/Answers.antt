use Rattle.regex_lite.proofs.Common.{sym, ap, subst, IsGraphOfList, AreTrees, CompiledList}
use Rattle.regex_lite.proofs.string.ListReportedLemmas.{any_reported}
use Rattle.regex_lite.proofs.string.list.RegexList.is_match_counted_at.Goals as goal

pub returns-clause-found : goal.returns-clause-found
returns-clause-found c =
    let built = c.self.invariant in
    let given : AreTrees c.args.self.now built.trees = rw (← c.self.view_is) built.given in
    let graph = ap (λ (compiled : CompiledList). compiled.graph) c.deref.ensures in
    any_reported c.args.self.now built.trees c.args.haystack.now c.args.start
    c.in_ok-reported.reported.0 given (c.in_ok-reported.ensures.found built.trees built.regular
    (subst (IsGraphOfList built.trees) (sym graph) built.graph))
