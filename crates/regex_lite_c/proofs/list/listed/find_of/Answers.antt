use Rattle.regex_lite_c.proofs.Common.{◌≡◌, None, arith, Expression}
use Rattle.regex_lite_c.specs.Spans.{FindsSpan, TellsSpan}
use Rattle.regex_lite_c.specs.declared.answer.TheConstants.{NO_PATTERN}
use Rattle.regex_lite_c.proofs.list.ListedLemmas.{listed_answer, of_one}
use Rattle.regex_lite_c.proofs.list.listed.find_of.Goals as goal

pub returns-clause-answer : goal.returns-clause-answer
returns-clause-answer c =
    let list = c.args.list.now in
    let text = c.args.text.now in
    let Yes : Expression → Type 0 = λ re. FindsSpan re text c.args.start c.find.new.span in
    let No : Expression → Type 0 = λ re. TellsSpan re text c.args.start None in
    listed_answer list c.args.number (omega (arith, c.if-number-len.false, c.len.ensures)) Yes No
    (c.find.result ≡ NO_PATTERN) text c.args.start c.find.result (of_one list c.args.number Yes)
    (of_one list c.args.number No) c.find.ensures.answer
