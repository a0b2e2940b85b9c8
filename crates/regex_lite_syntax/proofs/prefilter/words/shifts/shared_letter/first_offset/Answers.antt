use Rattle.regex_lite_syntax.proofs.Common.{arith}
use Rattle.regex_lite_syntax.proofs.prefilter.words.SharedLetterLemmas.{starts_with_letter}
use Rattle.regex_lite_syntax.proofs.prefilter.words.shifts.shared_letter.first_offset.Goals as goal

pub returns-then-is-2 : goal.returns-then-is-2
returns-then-is-2 c = λ bytes starts.
    let own = c.index-word-k.result in
    starts_with_letter c.args.word.now bytes c.args.letter own c.letters.k (omega arith)
    c.index-word-k.is (c.is.ensures.0 c.if-is.true) (c.is-then-is.ensures.0 c.if-is-2.true) starts
