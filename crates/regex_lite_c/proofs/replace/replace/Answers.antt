use Rattle.regex_lite_c.proofs.Common.{◌≡◌, ℕ, ◌⊎◌, List, length, sym, ◌∙◌, subst, inl, inr, arith}
use Rattle.regex_lite_c.proofs.Common.{cases_lt, OUT_OF_MEMORY}
use Rattle.regex_lite_c.specs.Replacing.{IsReplaced, IsTextAnswer}
use Rattle.regex_lite_c.specs.Buffers.{IsWritten}
use Rattle.regex_lite_c.specs.declared.answer.TheConstants.{NOT_TEXT}
use Rattle.regex_lite_c.proofs.replace.replace.Goals as goal

not_refused : (text old new : List ℕ) (len answer : ℕ) → IsWritten text old new len answer
    → (answer ≡ NOT_TEXT) ⊎ (answer ≡ OUT_OF_MEMORY) → ⊥
not_refused text old new len answer is wrong =
    elim (cases_lt (length old) (length text)) [
      | inr within ↦
          let yes = (is.written within).0 in
          elim wrong [ inl bad ↦ omega (arith, yes, bad) | inr bad ↦ omega (arith, yes, bad) ]
      | inl above ↦
          let no = (is.no_room above).0 in
          elim wrong [ inl bad ↦ omega (arith, no, bad) | inr bad ↦ omega (arith, no, bad) ]
    ]

text_reported : (AreTexts : Type 0) (Says : List ℕ → Type 0) (text old new : List ℕ)
    (old_len len answer : ℕ)
    → AreTexts → Says text → IsWritten text old new len answer
    → IsTextAnswer AreTexts Says old new old_len len answer
text_reported AreTexts Says text old new old_len len answer are says is =
    let never = not_refused text old new len answer is in
    record {
      not_text = (λ bad _. never (inl bad), λ none. absurd (none are));
      same = λ bad. absurd (never bad);
      written = λ _. (text, says, is);
    }

pub returns-in-Ok-replaced-clause-answer : goal.returns-in-Ok-replaced-clause-answer
returns-in-Ok-replaced-clause-answer c =
    let re = c.args.regex.now in
    let how = c.args.replacing.now in
    let text = c.in-Ok.ensures.cases in
    let template = c.in-Ok-from_utf8.ensures.cases in
    let bytes = sym (c.as_bytes.ensures.value ∙ c.as_str.ensures.value) in
    let count = c.in-Ok-replaced.count in
    text_reported _ (λ new. IsReplaced re c.args.text.now c.args.template.now how new count)
    c.as_bytes.result.now c.args.buffer.now c.write.new.buffer how.len c.write.new.len
    c.write.result (text.1, template.1)
    (subst (λ t. IsReplaced re t c.args.template.now how c.as_bytes.result.now count) text.0
    (subst (λ t. IsReplaced re c.in-Ok.text.now t how c.as_bytes.result.now count) template.0
    (subst (λ new. IsReplaced re c.in-Ok.text.now c.in-Ok-from_utf8.template.now how new count)
    bytes c.in-Ok-replaced.ensures)))
    c.write.ensures
