use Rattle.regex_lite_c.proofs.each.EachLemmas.{finds_span}
use Rattle.regex_lite_c.proofs.list.listed.ListedSearch.first_span.Goals as goal

pub returns-in-Some : goal.returns-in-Some
returns-in-Some c =
    let own = rw c.in-Some.is at c.in_ok-found.ensures.found in (
      own.0,
      own.1,
      finds_span own.0 c.args.text.now c.args.start c.in-Some.found c.of.result own.2 c.of.ensures,
    )
