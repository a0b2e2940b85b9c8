use Rattle.regex_lite_engine.proofs.Common.{◌-◌, ◌∷◌, slice_index, ap, ◌∙◌, rules, Held}
use Rattle.regex_lite_engine.specs.Backtrack.Machine.{explore}
use Rattle.regex_lite_engine.proofs.backtrack.StackLemmas.{one_before}
use Rattle.regex_lite_engine.proofs.backtrack.stack.Stack.push_all.Goals as goal

pub loop-i-preserved : goal.loop-i-preserved
loop-i-preserved c =
    let a = c.args in
    c.push.ensures
    ∙ ap (λ (z : Held). record z {
      frames = explore (slice_index a.places.now (c.loop-i.i - 1)) a.at ∷ z.frames;
    }) c.loop-i.invariant
    ∙ ap (λ frames. record a.self.now { frames = frames })
    (one_before a.places.now a.at c.loop-i.i a.self.now.frames (search rules) (search rules))
