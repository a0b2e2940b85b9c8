use Rattle.regex_lite_syntax.proofs.Common.{arith}
use Rattle.regex_lite_syntax.specs.Prefilter.WordLists.{all_words}
use Rattle.regex_lite_syntax.proofs.prefilter.words.ShiftLemmas.{at_end}
use Rattle.regex_lite_syntax.proofs.prefilter.words.shifts.Shifts.stands_at.Goals as goal

pub returns-then-bytes-at : goal.returns-then-bytes-at
returns-then-bytes-at c =
    let words = all_words c.args.words.now in
    let bytes = c.args.bytes.now in
    let at = c.args.at in
    let few = c.if-bytes-at.true in (
      λ stands. cc,
      λ stands. absurd (at_end words bytes c.args.self.now.reach at at c.requires.shifts.long
          c.requires.inside (omega (arith, few)) (λ k low below. absurd (omega (arith, low, below)))
          at (omega arith) stands),
    )
