use Rattle.regex_lite.proofs.Common.{sym, ap, subst, IsGraphOfList, AreTrees, CompiledList}
use Rattle.regex_lite.proofs.string.ListedLemmas.{has_entry, listed_any, there, tree_at}
use Rattle.regex_lite.proofs.string.list.RegexList.is_match_of_at.Goals as goal

pub search_listed_any-requires-clause-number : goal.search_listed_any-requires-clause-number
search_listed_any-requires-clause-number c =
    let built = c.self.invariant in
    let given : AreTrees c.args.self.now built.trees = rw (← c.self.view_is) built.given in
    rw c.deref.ensures
    (has_entry c.args.self.now c.self.inside.compiled built given c.args.number c.requires.number)

pub returns-clause-found : goal.returns-clause-found
returns-clause-found c =
    let list = c.args.self.now in
    let own = c.self.inside.compiled in
    let built = c.self.invariant in
    let given : AreTrees list built.trees = rw (← c.self.view_is) built.given in
    let number = c.args.number in
    let within = c.requires.number in
    let graph = ap (λ (compiled : CompiledList). compiled.graph) c.deref.ensures in
    listed_any list own built given number within c.args.haystack.now c.args.start
    c.in_ok-found.found
    (c.in_ok-found.ensures built.trees (tree_at list own built given number within) built.regular
    (subst (IsGraphOfList built.trees) (sym graph) built.graph)
    (there list own built given number within))
