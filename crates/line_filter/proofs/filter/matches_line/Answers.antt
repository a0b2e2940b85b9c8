use Rattle.std.proofs.Common.{IsTrue, subst, ◌↔◌, ◌∙◌}
use Rattle.std.specs.Prelude.{IsUtf8}
use Rattle.regex_lite.specs.Searches.{MatchesFrom}
use Rattle.line_filter.specs.Lines.{text_of}
use Rattle.line_filter.proofs.filter.matches_line.Goals as goal

pub returns-in-Ok-clause-found : goal.returns-in-Ok-clause-found
returns-in-Ok-clause-found c =
    let re = c.args.searcher.now in
    let text = c.in-Ok.ensures.cases in
    let utf8 = subst IsUtf8 c.without_feed.ensures text.1 in
    let somewhere = c.searches_find_the_first_match.ensures.anywhere re
    (text_of c.args.line.now) utf8 in
    let found = subst (λ t. IsTrue c.is_match.result ↔ MatchesFrom re t 0)
    (text.0 ∙ c.without_feed.ensures) c.is_match.ensures.found in
    (λ yes. (utf8, somewhere.0 (found.0 yes)), λ matches. found.1 (somewhere.1 matches.1))
