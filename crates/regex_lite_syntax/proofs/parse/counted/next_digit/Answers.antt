use Rattle.regex_lite_syntax.proofs.Common.{sym, ◌∙◌, arith}
use Rattle.regex_lite_syntax.proofs.ListLemmas.{same_head}
use Rattle.regex_lite_syntax.proofs.grammar.NumberLemmas.{digit_bounds, no_digit_past}
use Rattle.regex_lite_syntax.proofs.parse.counted.next_digit.Goals as goal

pub returns-in_err-char_at-clause-none : goal.returns-in_err-char_at-clause-none
returns-in_err-char_at-clause-none c =
    rw c.from_residual.ensures (no_digit_past _ _ _ c.skip_gap-here.ensures.gap
    (λ d rest here digit. let nothing = sym c.in_err-char_at.ensures ∙ here in cc nothing))

pub returns-in_err-digit-clause-none : goal.returns-in_err-digit-clause-none
returns-in_err-digit-clause-none c =
    rw c.from_residual-in_err-digit.ensures (no_digit_past _ _ _ c.skip_gap-here.ensures.gap
    (λ d rest here digit.
    let same = same_head (sym c.in_ok-char_at.ensures.1 ∙ here) in
    omega (arith, same, digit_bounds d digit, c.in_err-digit.ensures.cases)))
