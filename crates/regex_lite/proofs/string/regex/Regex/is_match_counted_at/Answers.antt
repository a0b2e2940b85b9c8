use Rattle.regex_lite.proofs.Common.{sym, ap, subst, IsGraphOf}
use Rattle.regex_lite.proofs.OneTreeLemmas.{has_reported}
use Rattle.regex_lite.proofs.string.regex.Regex.is_match_counted_at.Goals as goal

pub returns-clause-found : goal.returns-clause-found
returns-clause-found c =
    let built = c.self.invariant in
    let graph = ap (λ compiled. compiled.graph) c.deref.ensures in
    has_reported c.args.self.now c.args.haystack.now c.args.start c.in_ok-reported.reported.0 (
      built.tree,
      rw (← c.self.view_is) built.given,
      c.in_ok-reported.ensures.found built.tree built.regular
          (subst (IsGraphOf built.tree) (sym graph) built.graph),
    )
