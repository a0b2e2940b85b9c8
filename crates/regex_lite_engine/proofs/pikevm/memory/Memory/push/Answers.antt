use Rattle.regex_lite_engine.proofs.Common.{◌+◌, ◌∷◌, refl, ap, ◌∙◌, arith, length-set}
use Rattle.regex_lite_engine.proofs.Common.{Cell}
use Rattle.regex_lite_engine.specs.Pikevm.Cells.{frame_of}
use Rattle.regex_lite_engine.specs.Pikevm.Machine.{State}
use Rattle.regex_lite_engine.proofs.pikevm.memory.CellLemmas.{frame_put, with_frame}
use Rattle.regex_lite_engine.proofs.pikevm.memory.TogetherLemmas.{frames_stay, still_together}
use Rattle.regex_lite_engine.proofs.pikevm.memory.TogetherLemmas.{together_set, together_with}
use Rattle.regex_lite_engine.proofs.pikevm.memory.ViewLemmas.{counted, stands_set}
use Rattle.regex_lite_engine.proofs.pikevm.memory.Memory.push.Goals as goal

pub provide-requires-clause-next : goal.provide-requires-clause-next
provide-requires-clause-next g c = c.self.invariant.frames_fit

pub provide-requires-clause-room : goal.provide-requires-clause-room
provide-requires-clause-room g c =
    let fit = c.self.invariant in
    let count = counted g.S.ThreadStart.reported c.self.inside c.self.view_is fit in
    omega (arith, c.requires, count, fit.cells_fit)

pub invariant_of-self : goal.invariant_of-self
invariant_of-self g c =
    let k = c.self.inside.depth in let cells = c.provide.new.cells.items in
    let y : Cell _ = record c.index_mut.result.now { frame = c.args.frame } in
    together_with refl (omega (arith, length-set cells k y, c.provide.ensures.there))
    (together_set k y
    (still_together c.provide.ensures.more c.provide.ensures.capacity c.self.invariant))

pub returns : goal.returns
returns g c =
    let i = c.self.inside in let v = c.self.view_is in let fit = c.self.invariant in
    let more = c.provide.ensures.more in let cells = c.provide.new.cells.items in
    let x = c.index_mut.result.now in let is = c.index_mut.ensures.value in
    let y : Cell _ = record x { frame = c.args.frame } in
    stands_set g.S.ThreadStart.reported i v fit more i.depth y is (λ s. with_frame s x c.args.frame)
    (i.depth + 1)
    (frame_put cells i.depth y c.provide.ensures.there
    ∙ ap (λ fs. frame_of c.args.frame ∷ fs)
    (frames_stay more fit.frames_fit ∙ ap (λ (z : State). z.frames) v))
