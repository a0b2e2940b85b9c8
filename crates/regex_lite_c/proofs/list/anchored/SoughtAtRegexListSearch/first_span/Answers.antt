use Rattle.regex_lite_c.proofs.anchored.AnchoredLemmas.{finds_list_span_at}
use Rattle.regex_lite_c.proofs.list.anchored.SoughtAtRegexListSearch.first_span.Goals as goal

pub returns-in-Some : goal.returns-in-Some
returns-in-Some c =
    finds_list_span_at c.args.self.now.sought.now c.args.text.now c.args.start c.in-Some.number
    c.in-Some.found c.of.result (rw c.in-Some.is at c.in_ok-number.ensures.found) c.of.ensures
