use Rattle.regex_lite.proofs.Common.{sym, ap, ◌∙◌, subst, IsGraphOfList, AreTrees, CompiledList}
use Rattle.regex_lite.proofs.string.list.set_searcher.SetSearcher.new.Goals as goal

pub invariant_of-result : goal.invariant_of-result
invariant_of-result c =
    let own = c.list.invariant in
    let given : AreTrees c.args.list.now own.trees = rw (← c.list.view_is) own.given in
    let same = c.in_ok-inner.ensures
    ∙ ap (λ (compiled : CompiledList). compiled.graph) c.deref.ensures in
    (own.trees, given, (own.regular, subst (IsGraphOfList own.trees) (sym same) own.graph))
