use Rattle.regex_lite.proofs.Common.{ap, ◌∙◌, AreTrees, kept_slots, CompiledList}
use Rattle.regex_lite.proofs.string.ListSlotLemmas.{most_are}
use Rattle.regex_lite.proofs.string.list.RegexList.kept_slots.Goals as goal

pub returns : goal.returns
returns c =
    let built = c.self.invariant in
    let given : AreTrees c.args.self.now built.trees = rw (← c.self.view_is) built.given in
    let most = most_are built.trees c.self.inside.compiled.graph.groups built.groups.all
    built.groups.each in (
      built.trees,
      given,
      ap (λ (compiled : CompiledList). compiled.kept_slots) c.deref.ensures
          ∙ built.slots ∙ ap kept_slots most,
    )
