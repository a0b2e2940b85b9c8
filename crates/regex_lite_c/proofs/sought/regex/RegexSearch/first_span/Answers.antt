use Rattle.regex_lite_c.proofs.each.EachLemmas.{finds_span}
use Rattle.regex_lite_c.proofs.sought.regex.RegexSearch.first_span.Goals as goal

pub returns-in-Some : goal.returns-in-Some
returns-in-Some c =
    finds_span c.args.self.now c.args.text.now c.args.start c.in-Some.found
    c.of.result (rw c.in-Some.is at c.in_ok-found.ensures.found) c.of.ensures
