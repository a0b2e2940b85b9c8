use Rattle.std.proofs.Common.{is_ok}
use Rattle.rxl.proofs.OutputLemmas.{both_written}
use Rattle.rxl.proofs.output.write_both.Goals as goal

pub returns : goal.returns
returns g c =
    both_written (g.W.Write.contents c.args.out.now) (g.W.Write.contents c.write_all.new.out)
    (g.W.Write.contents c.write_all-2.new.out) c.args.first.now c.args.second.now
    (is_ok c.write_all-2.result) c.in_ok-write_all.ensures c.write_all-2.ensures
