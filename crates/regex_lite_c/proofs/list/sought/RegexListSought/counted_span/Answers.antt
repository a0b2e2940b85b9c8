use Rattle.regex_lite_c.proofs.list.ListSearchLemmas.{finds_list_span}
use Rattle.regex_lite_c.proofs.list.sought.RegexListSought.counted_span.Goals as goal

pub returns-in-Some-clause-found : goal.returns-in-Some-clause-found
returns-in-Some-clause-found c =
    finds_list_span c.args.self.now c.args.text.now c.args.start c.in-Some.number c.in-Some.found
    c.of.result (rw c.in-Some.is at c.in_ok-reported.ensures.found) c.of.ensures
