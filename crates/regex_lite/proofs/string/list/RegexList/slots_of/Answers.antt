use Rattle.regex_lite.proofs.Common.{◌*◌, length, chars, ap, ◌∙◌, arith, IsTree, AreTrees}
use Rattle.regex_lite.proofs.Common.{CompiledList}
use Rattle.regex_lite.proofs.PairedLemmas.{paired_length}
use Rattle.regex_lite.proofs.string.list.RegexList.slots_of.Goals as goal

pub groups-requires : goal.groups-requires
groups-requires c =
    let built = c.self.invariant in
    let given : AreTrees c.args.self.now built.trees = rw (← c.self.view_is) built.given in
    let each = paired_length (λ re tree. IsTree re.flags (chars re.pattern) tree) c.args.self.now
    built.trees given in
    let graph = ap (λ (compiled : CompiledList). length compiled.graph.groups) c.deref.ensures in
    omega (arith, c.requires, each, built.groups.all, graph)

pub returns : goal.returns
returns c =
    let built = c.self.invariant in
    let given : AreTrees c.args.self.now built.trees = rw (← c.self.view_is) built.given in (
      built.trees,
      given,
      λ tree there. (
          let own = built.groups.each c.args.number tree c.groups.result.now there
          (rw (← c.deref.ensures) c.groups.ensures) in
          ap (λ names. 2 * length names) c.capture_names.ensures ∙ ap (λ n. 2 * n) own.captures),
    )
