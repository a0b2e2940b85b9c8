use Rattle.regex_lite_syntax.proofs.Common.{ℕ, ◌≤◌, ◌<◌, length, arith, sym, subst}
use Rattle.regex_lite_syntax.proofs.Common.{MatchOption, NoneStands}
use Rattle.regex_lite_syntax.specs.Prefilter.Words.{AnyStandsAt}
use Rattle.regex_lite_syntax.proofs.prefilter.words.SharedLetterLemmas.{letter_inside, none_up_to}
use Rattle.regex_lite_syntax.proofs.prefilter.words.SharedLetterLemmas.{none_without}
use Rattle.regex_lite_syntax.proofs.prefilter.words.shifts.shared_letter.SharedLetter.next.Goals as
    goal

pub returns-in_err-at : goal.returns-in_err-at
returns-in_err-at c = λ words is.
    let bytes = c.args.bytes.now in
    let from = c.args.from in
    subst (λ next. MatchOption next ((at : ℕ) → from ≤ at → ¬ AnyStandsAt words bytes at)
    (λ next. (from ≤ next.0) × NoneStands words bytes from next.0 × (next.0 ≤ next.1)
    × (next.1 < length bytes))) (sym c.from_residual.ensures)
    (none_without words c.args.self bytes from is c.in_err-at.ensures)

pub returns : goal.returns
returns c = λ words is.
    let (low, none, there) = c.in_ok-at.ensures in (
      omega arith,
      none_up_to words c.args.self c.args.bytes.now c.args.from c.in_ok-at.at c.max.result is none
          (omega arith),
      omega (arith, low),
      letter_inside c.args.self.letter c.args.bytes.now c.in_ok-at.at there,
    )
