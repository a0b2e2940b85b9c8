use Rattle.std.proofs.Common.{◌≡◌, ◌∙◌, IfSome, IsUtf8, sym, subst}
use Rattle.regex_lite.proofs.ReplacementLemmas.{handed_on}
use Rattle.rxl.specs.Faults.{IsQuestionFault}
use Rattle.rxl.proofs.program.FaultLemmas.{no_text}
use Rattle.rxl.proofs.program.ReportedLemmas.{answered_by_print}
use Rattle.rxl.proofs.program.ask.Goals as goal

pub returns-clause-ok : goal.returns-clause-ok
returns-clause-ok g c =
    let input = g.R.Read.remaining c.args.input.now in
    let reported = c.in_ok-haystack.ensures.ok in
    let whole : IfSome input (λ known. c.in_ok-haystack.haystack.now ≡ known) =
    rw (reported.0, c.as_slice.ensures.value) c.in_ok-bytes.ensures.ok in
    let is_utf8 : IsUtf8 c.in_ok-haystack.haystack.now = rw reported.0 reported.1 in
    let printed = c.in_ok-print_question.ensures.ok in (
      printed.0,
      answered_by_print c.args.question c.args.pattern.now input c.in_ok-regex.regex
          c.in_ok-haystack.haystack.now c.in_ok-regex.ensures.ok c.in_ok-regex.ensures.accepted
          whole is_utf8 c.in_ok-print_question.field-0 printed.0 printed.1,
      printed.2,
    )

pub returns-in_err-haystack-clause-refused : goal.returns-in_err-haystack-clause-refused
returns-in_err-haystack-clause-refused g c =
    let input = g.R.Read.remaining c.args.input.now in
    let reported = c.in_err-haystack.ensures.refused in
    handed_on c.from_residual-in_err-haystack.result c.from_residual-in_err-haystack.ensures.1
    (λ fault is. subst (λ f. IsQuestionFault f c.args.pattern.now input) (sym (is ∙ reported.0)) (
      c.in_ok-regex.ensures.accepted,
      no_text input c.in_ok-bytes.bytes.items c.in_ok-bytes.ensures.ok
          (rw (← c.as_slice.ensures.value) reported.1),
    ))
