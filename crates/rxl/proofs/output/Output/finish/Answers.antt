use Rattle.std.proofs.Common.{false, true, sym, subst}
use Rattle.rxl.specs.Output.{IsWritten}
use Rattle.rxl.proofs.OutputLemmas.{failed_is_not_ok, finished, unflushed}
use Rattle.rxl.proofs.output.Output.finish.Goals as goal

pub returns-in_err-write_all-clause-written : goal.returns-in_err-write_all-clause-written
returns-in_err-write_all-clause-written g c before text was =
    let held = g.W.Write.contents c.args.out.now in
    let holds = g.W.Write.contents c.write_all.new.out in
    subst (IsWritten before holds text)
    (sym (failed_is_not_ok c.from_residual.result c.from_residual.ensures.0))
    (finished before held holds c.args.self text false c.if-self.false
    (subst (λ x. IsWritten held holds x false) c.as_slice.ensures.value c.in_err-write_all.ensures)
    was)

pub returns-in_err-flush-clause-written : goal.returns-in_err-flush-clause-written
returns-in_err-flush-clause-written g c before text was =
    let held = g.W.Write.contents c.args.out.now in
    let holds = g.W.Write.contents c.write_all.new.out in
    let done = g.W.Write.contents c.flush.new.self in
    subst (IsWritten before done text)
    (sym
    (failed_is_not_ok c.from_residual-in_err-flush.result c.from_residual-in_err-flush.ensures.0))
    (unflushed before holds done text c.in_err-flush.ensures.bytes
    (finished before held holds c.args.self text true c.if-self.false
    (subst (λ x. IsWritten held holds x true) c.as_slice.ensures.value c.in_ok-write_all.ensures)
    was))
