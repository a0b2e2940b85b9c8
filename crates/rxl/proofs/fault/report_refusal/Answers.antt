use Rattle.std.proofs.Common.{◌++◌, ◌∙◌, inl, inr, codes, is_ok, refl, subst}
use Rattle.regex_lite.specs.Errors.{out_of_memory}
use Rattle.rxl.specs.declared.fault.Failure.TheVariants.{Refused}
use Rattle.rxl.specs.Output.{IsWritten}
use Rattle.rxl.proofs.fault.report_refusal.Goals as goal

pub returns-in-Ok : goal.returns-in-Ok
returns-in-Ok g c =
    let before = g.W.Write.contents c.args.out.now in
    let now = g.W.Write.contents c.write_line.new.out in (
      Refused c.args.error,
      inl refl,
      subst (λ text. IsWritten before now (text ++ codes "\n") (is_ok c.write_line.result))
          (c.as_str.ensures.value ∙ c.in-Ok.ensures.ok) c.write_line.ensures,
    )

pub returns-in-Err : goal.returns-in-Err
returns-in-Err g c = (Refused out_of_memory, inr refl, c.write_line-in-Err.ensures)
