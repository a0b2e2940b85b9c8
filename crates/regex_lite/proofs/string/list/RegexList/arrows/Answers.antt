use Rattle.regex_lite.proofs.Common.{ap, arith, places_of_all, AreTrees, CompiledList}
use Rattle.regex_lite_engine.proofs.ArrowBoundLemmas.{arrows_all_few}
use Rattle.regex_lite.proofs.ListBuildLemmas.{one_list}
use Rattle.regex_lite.proofs.string.list.RegexList.arrows.Goals as goal

pub returns-clause-few : goal.returns-clause-few
returns-clause-few c = λ places (trees, given, counted).
    let built = c.self.invariant in
    let own : AreTrees c.args.self.now built.trees = rw (← c.self.view_is) built.given in
    omega (
      arith,
      c.arrows.ensures.same,
      (ap (λ (compiled : CompiledList). compiled.graph.arrows) c.deref.ensures),
      built.graph.arrows,
      counted,
      (ap places_of_all (one_list c.args.self.now trees built.trees given own)),
      arrows_all_few built.trees built.regular,
    )

pub returns-clause-bounded : goal.returns-clause-bounded
returns-clause-bounded c =
    let built = c.self.invariant in
    omega (
      arith,
      c.arrows.ensures.same,
      (ap (λ (compiled : CompiledList). compiled.graph.arrows) c.deref.ensures),
      built.graph.arrows,
      built.fit,
      arrows_all_few built.trees built.regular,
    )
