use Rattle.regex_lite_syntax.proofs.Common.{arith}
use Rattle.regex_lite_syntax.specs.Prefilter.Marks.{numbered_words}
use Rattle.regex_lite_syntax.proofs.prefilter.words.MarkLemmas.{marked_on}
use Rattle.regex_lite_syntax.proofs.prefilter.words.numbered.Numbered.mark_each.Goals as goal

pub returns-clause-marked : goal.returns-clause-marked
returns-clause-marked c = λ first to low marked.
    let v = c.words.invariant in
    marked_on (numbered_words c.args.self.now) c.args.bytes.now first c.args.from c.args.marks.now
    marked c.words.marks low v.adds
    (λ k at below later stands. v.here k at
    (omega (arith, c.words-test.false, c.len-number-end.ensures, below)) later stands) to
