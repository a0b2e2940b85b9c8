use Rattle.std.proofs.Common.{is_ok, subst, ◌++◌, ◌∙◌}
use Rattle.rxl.specs.Output.{IsWritten}
use Rattle.rxl.proofs.OutputLemmas.{error_is_not_ok, sent}
use Rattle.rxl.proofs.output.Output.send.Goals as goal

pub returns : goal.returns
returns g c =
    let held = g.W.Write.contents c.args.out.now in
    let holds = g.W.Write.contents c.write_both.new.out in
    sent c.args.self.now (record { waiting = c.clear.new.self; has_failed = c.is_err-self.result })
    held holds c.args.bytes.now (is_ok c.write_both.result) c.if-self.false
    (c.is_err-self.ensures.value ∙ error_is_not_ok c.write_both.result) c.clear.ensures.items
    (subst (λ x. IsWritten held holds (x ++ c.args.bytes.now) (is_ok c.write_both.result))
    c.as_slice.ensures.value c.write_both.ensures)
