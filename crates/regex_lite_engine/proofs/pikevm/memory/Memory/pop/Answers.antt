use Rattle.regex_lite_engine.proofs.Common.{◌-◌, ◌<◌, sym, refl, ap, ◌∙◌, arith}
use Rattle.regex_lite_engine.specs.Pikevm.Machine.{State}
use Rattle.regex_lite_engine.proofs.pikevm.memory.CellLemmas.{frame_taken}
use Rattle.regex_lite_engine.proofs.pikevm.memory.TogetherLemmas.{together_with}
use Rattle.regex_lite_engine.specs.Pikevm.Cells.{frames_in}
use Rattle.regex_lite_engine.proofs.pikevm.memory.Memory.pop.Goals as goal

pub returns : goal.returns
returns g c =
    let i = c.self.inside in let v = c.self.view_is in
    let some : 0 < i.depth = omega (arith, c.if-self-eq0.false) in (
      sym (ap (λ (z : State). z.frames) v)
          ∙ frame_taken i.cells.items i.depth c.index.result.now some c.self.invariant.frames_fit
          c.index.ensures,
      ap (λ (z : State). record z { frames = frames_in i.cells.items (i.depth - 1) }) v,
    )

pub returns-then-self-eq0 : goal.returns-then-self-eq0
returns-then-self-eq0 g c = (
  sym (ap (λ (z : State). z.frames) c.self.view_is)
      ∙ ap (λ n. frames_in c.self.inside.cells.items n) c.if-self-eq0.true,
  refl,
)

pub index-requires : goal.index-requires
index-requires g c = omega (arith, c.self.invariant.frames_fit, c.if-self-eq0.false)

pub invariant_of-self : goal.invariant_of-self
invariant_of-self g c =
    together_with refl (omega (arith, c.self.invariant.frames_fit)) c.self.invariant
