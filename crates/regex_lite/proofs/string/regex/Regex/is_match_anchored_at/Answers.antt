use Rattle.regex_lite.proofs.Common.{sym, ap, subst, IsGraphOf}
use Rattle.regex_lite.proofs.string.AnchoredLemmas.{has_reported_there}
use Rattle.regex_lite.proofs.string.regex.Regex.is_match_anchored_at.Goals as goal

pub returns-clause-found : goal.returns-clause-found
returns-clause-found c =
    let built = c.self.invariant in
    let graph = ap (λ compiled. compiled.graph) c.deref.ensures in
    has_reported_there c.args.haystack.now c.utf8.haystack c.args.start c.requires c.args.self.now
    c.in_ok-found.found (
      built.tree,
      rw (← c.self.view_is) built.given,
      c.in_ok-found.ensures.found built.tree built.regular
          (subst (IsGraphOf built.tree) (sym graph) built.graph),
    )
