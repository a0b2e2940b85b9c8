use Rattle.regex_lite_c.proofs.Common.{sym, refl, ap, ◌∙◌, subst, inl, inr, arith, number_of}
use Rattle.regex_lite_c.proofs.Common.{settings_of}
use Rattle.regex_lite_syntax.specs.Errors.{kind_of}
use Rattle.regex_lite.specs.Outlines.{AreParts, IsDueOnReading, IsReadable}
use Rattle.regex_lite_c.proofs.build.RefusalLemmas.{above_five}
use Rattle.regex_lite_c.proofs.outline.OutlineLemmas.{parts_reported}
use Rattle.regex_lite_c.proofs.outline.regex_lite_outline.Goals as goal

pub returns-in-Ok-parts_of : goal.returns-in-Ok-parts_of
returns-in-Ok-parts_of c =
    let text = c.in-Ok.ensures.cases in
    let options = c.args.options.now in
    let own = c.deref.result.now in
    let are =
    subst (λ p. AreParts (settings_of p options) own) text.0
    (subst (λ parts. AreParts (settings_of c.in-Ok.pattern.now options) parts)
    (sym c.deref.ensures.value) c.in-Ok-parts_of.ensures.parts) in
    parts_reported _ _ own c.args.parts.now c.write_parts.new.parts c.args.message.now _ text.1
    (are, c.write_parts.ensures.count) refl c.write_parts.ensures.written
    c.write_parts.ensures.no_room

pub returns-in-Err : goal.returns-in-Err
returns-in-Err c =
    let same = c.in-Ok.ensures.cases.0 in
    let options = c.args.options.now in
    let error = c.in-Err.error in
    let is_text = c.in-Ok.ensures.cases.1 in
    let number = c.number_of.ensures in
    let large = above_five (kind_of error) in
    record {
      written = λ yes. absurd (omega (arith, yes, number, large));
      no_room = λ full. absurd (omega (arith, full, number, large));
      same = λ _. refl;
      not_text = (λ is _. omega (arith, is, number, large), λ none. absurd (none is_text));
      refused = λ _ _ _. (
        error,
        subst (λ p. IsDueOnReading (settings_of p options) error) same c.in-Err.ensures.refused,
        number,
        c.write_message.ensures,
      );
      complete = λ _ _ _ readable. number
          ∙ ap (λ e. number_of (kind_of e)) (c.in-Err.ensures.complete
          (subst (λ p. IsReadable (settings_of p options)) (sym same) readable));
      none_reported = λ _ _. refl;
      no_message = λ few. absurd (elim (few is_text) [
        | inl written ↦ omega (arith, written, number, large)
        | inr full ↦ omega (arith, full, number, large)
      ]);
    }
