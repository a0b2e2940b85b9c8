use Rattle.std.proofs.Common.{[], sym, ◌∙◌}
use Rattle.std.specs.Fmt.{decimal}
use Rattle.rxl.specs.declared.output.Output.{Output}
use Rattle.rxl.specs.Output.{Puts}
use Rattle.rxl.proofs.OutputLemmas.{on_ok, puts_more, puts_nothing, waits_or_refused}
use Rattle.rxl.proofs.output.Output.number.Goals as goal
use Rattle.rxl.proofs.output.Output.number.Goals.{then-len, else-len}

pub returns-then-not-self : goal.returns-then-not-self
returns-then-not-self g c =
    let held = g.W.Write.contents c.args.out.now in
    let holds = g.W.Write.contents c.if-len.out in
    let new : Output = record { waiting = c.write.new.self; has_failed = c.is_err-self.result } in
    let sent : Puts c.args.self.now held c.if-len.self holds [] = elim c.if-len.branch [
      | then-len w ↦ rw (w.self-is, w.out-is) w.send.ensures
      | else-len w ↦ rw (w.self-is, w.out-is) (puts_nothing c.args.self.now held)
    ] in
    puts_more c.args.self.now c.if-len.self new held holds holds [] (decimal c.args.number) sent
    (waits_or_refused c.if-len.self new holds (decimal c.args.number) c.if-not-self.true
    (λ ok. on_ok c.write.result _ (sym c.is_err-self.ensures.value ∙ ok) c.write.ensures.bytes))
