use Rattle.std.proofs.Common.{None, sym, ◌∙◌, subst}
use Rattle.regex_lite.specs.Ahead.{whole}
use Rattle.regex_lite.proofs.ReplacementLemmas.{handed_on}
use Rattle.rxl.specs.Printed.{Prints}
use Rattle.rxl.specs.declared.command.Question.TheVariants.{Replace}
use Rattle.rxl.proofs.ReplacedLemmas.{replaced_prints}
use Rattle.rxl.proofs.TemplateLemmas.{template_refused}
use Rattle.rxl.proofs.commands.print_replaced.Goals as goal

pub returns-in_err-replaced-clause-refused : goal.returns-in_err-replaced-clause-refused
returns-in_err-replaced-clause-refused g c =
    handed_on c.from_residual.result c.from_residual.ensures.1
    (λ error is. is ∙ template_refused c.args.template
    (whole c.args.regex.now c.args.haystack.now None) c.in_err-replaced.field-0.0
    c.in_err-replaced.ensures.refused)

pub returns-clause-ok : goal.returns-clause-ok
returns-clause-ok g c =
    let regex = c.args.regex.now in
    let found = c.is_new.result in (
      c.as_str.result.now,
      subst (Prints (Replace c.args.template) regex c.args.haystack.now found)
          (sym c.as_str.ensures.value)
          (replaced_prints regex c.args.template c.args.haystack _ found
          c.in_ok-replaced.ensures.replaced c.in_ok-replaced.ensures.borrowed
          c.in_ok-replaced.ensures.owned c.is_new.ensures),
      c.text.ensures,
    )
