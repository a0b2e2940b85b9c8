use Rattle.std.proofs.Common.{is_ok, refl, ap}
use Rattle.rxl.proofs.program.FaultLemmas.{fault_of, reported, usage_reported}
use Rattle.rxl.proofs.program.run.Goals as goal

pub returns-in-Err-clause-fault : goal.returns-in-Err-clause-fault
returns-in-Err-clause-fault g c _ =
    reported c.in-Err.fault c.args.args.now (g.R.Read.remaining c.args.input.now)
    (g.O.Write.contents c.args.out.now) (g.O.Write.contents c.print_answer.new.out)
    (g.E.Write.contents c.args.err.now) (g.E.Write.contents c.report.new.out)
    (is_ok c.report.result) c.in-Err.ensures.refused c.report.ensures

pub returns-in-Err-clause-usage : goal.returns-in-Err-clause-usage
returns-in-Err-clause-usage g c none =
    let reported = c.in-Err.ensures.usage none in (
      refl,
      reported.1,
      reported.2,
      usage_reported c.in-Err.fault (g.E.Write.contents c.args.err.now)
          (g.E.Write.contents c.report.new.out) (is_ok c.report.result)
          (ap fault_of reported.0) c.report.ensures,
    )
