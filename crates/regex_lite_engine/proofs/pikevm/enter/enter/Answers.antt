use Rattle.regex_lite_engine.proofs.Common.{false, ◌∷◌, sym, refl, subst}
use Rattle.std.specs.Prelude.{not, ◌==◌}
use Rattle.regex_lite_engine.specs.declared.nfa.place.Place as code
use Rattle.regex_lite_engine.specs.Pikevm.Entering.{Enters}
use Rattle.regex_lite_engine.specs.Pikevm.Machine.{explore}
use Rattle.regex_lite_engine.proofs.pikevm.enter.enter.Goals as goal

pub returns-in-Slot-clause-entered : goal.returns-in-Slot-clause-entered
returns-in-Slot-clause-entered g c =
    let a = c.args in let n = c.mark.new.memory in
    subst (λ (x : code.Place). Enters (not (g.row.WHOLE == 0)) a.here
    (g.S.ThreadStart.reported a.start) x a.memory.now
    (record n { frames = explore c.in-Slot.to ∷ n.frames }) false) (sym c.in-Slot.is)
    (c.mark.ensures.marked c.in-Slot.to, refl)
