use Rattle.regex_lite_c.proofs.Common.{sym, ap, ◌∙◌, subst, arith, IsAccepted, number_of}
use Rattle.regex_lite_c.proofs.Common.{settings_of}
use Rattle.std.proofs.Common.{rules}
use Rattle.regex_lite_syntax.specs.Errors.{kind_of}
use Rattle.regex_lite.specs.Expression.{IsDue}
use Rattle.regex_lite_c.proofs.build.RefusalLemmas.{above_five}
use Rattle.regex_lite_c.proofs.build.regex_lite_new.Goals as goal

pub returns : goal.returns
returns c =
    let same = c.in-Ok.ensures.cases.0 in
    let options = c.args.options.now in
    let error = c.in-Err.error in
    let is_text = c.in-Ok.ensures.cases.1 in
    let number = c.number_of.ensures in
    let large = above_five (kind_of error) in
    record {
      built = search rules;
      accepted = search rules;
      nothing = λ _. c.take-freed.ensures.nothing;
      not_text = (λ is _. omega (arith, is, number, large), λ none. absurd (none is_text));
      refused = λ _ _. (
        error,
        subst (λ p. IsDue (settings_of p options) error) same c.in-Err.ensures.refused,
        number,
        c.write_message.ensures,
      );
      complete = λ _ _ accepted. number ∙ ap (λ e. number_of (kind_of e)) (c.in-Err.ensures.complete
          (subst (λ p. IsAccepted (settings_of p options)) (sym same) accepted));
      no_message = λ yes. let is = yes is_text in absurd (omega (arith, is, number, large));
    }
