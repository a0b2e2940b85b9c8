use Rattle.regex_lite_syntax.proofs.Common.{◌<◌, length, arith}
use Rattle.regex_lite_syntax.proofs.parse.IndexLemmas.{some_at}
use Rattle.regex_lite_syntax.proofs.parse.letters.is_out_of_letters.Goals as goal

pub returns-else-at-chars-clause-some_left : goal.returns-else-at-chars-clause-some_left
returns-else-at-chars-clause-some_left c further end =
    let inside : c.args.at < length c.args.chars.now =
    omega (arith, c.requires, c.if-at-chars.false) in
    absurd (some_at c.args.chars.now c.args.at inside end)
