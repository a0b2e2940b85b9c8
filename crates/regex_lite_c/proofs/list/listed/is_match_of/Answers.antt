use Rattle.regex_lite_c.proofs.Common.{◌≡◌, arith, Expression}
use Rattle.regex_lite.specs.Searches.{MatchesFrom}
use Rattle.regex_lite_c.specs.declared.answer.TheConstants.{NO_PATTERN}
use Rattle.regex_lite_c.proofs.list.ListedLemmas.{listed_answer, of_one}
use Rattle.regex_lite_c.proofs.list.listed.is_match_of.Goals as goal

pub returns-clause-answer : goal.returns-clause-answer
returns-clause-answer c =
    let list = c.args.list.now in
    let text = c.args.text.now in
    let Yes : Expression → Type 0 = λ re. MatchesFrom re text c.args.start in
    let No : Expression → Type 0 = λ re. MatchesFrom re text c.args.start → ⊥ in
    listed_answer list c.args.number (omega (arith, c.if-number-len.false, c.len.ensures)) Yes No
    (c.is_match.result ≡ NO_PATTERN) text c.args.start c.is_match.result
    (of_one list c.args.number Yes) (λ re is none matches. none (re, is, matches))
    c.is_match.ensures.answer
