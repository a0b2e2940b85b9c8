use Rattle.regex_lite.proofs.Common.{◌≡◌, chars, ap, arith, IsTree, whole_places, IsBuilt, Compiled}
use Rattle.regex_lite_engine.proofs.ArrowBoundLemmas.{arrows_few}
use Rattle.regex_lite.proofs.OneTreeLemmas.{one_tree}
use Rattle.regex_lite.proofs.string.regex.Regex.arrows.Goals as goal

pub returns-clause-bounded : goal.returns-clause-bounded
returns-clause-bounded c =
    let built : IsBuilt c.deref.result.now = rw c.deref.ensures c.self.invariant in
    omega (
      arith,
      c.arrows.ensures,
      built.graph.arrows,
      built.fits.1.places_fit,
      arrows_few built.tree built.regular,
    )

pub returns-clause-few : goal.returns-clause-few
returns-clause-few c = λ places (tree, given, counted).
    let re = c.args.self.now in
    let own = c.self.invariant in
    let own_given : IsTree re.flags (chars re.pattern) own.tree = rw (← c.self.view_is) own.given in
    let graph : c.deref.result.now.graph.arrows ≡ c.self.inside.compiled.graph.arrows =
    ap (λ (compiled : Compiled). compiled.graph.arrows) c.deref.ensures in
    omega (
      arith,
      c.arrows.ensures,
      graph,
      own.graph.arrows,
      counted,
      arrows_few own.tree own.regular,
      ap whole_places (one_tree re.flags (chars re.pattern) tree own.tree given own_given),
    )
