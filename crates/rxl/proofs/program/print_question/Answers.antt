use Rattle.rxl.proofs.program.ReportedLemmas.{printed_by_search}
use Rattle.rxl.proofs.program.print_question.Goals as goal

pub returns-in-IsMatch-clause-ok : goal.returns-in-IsMatch-clause-ok
returns-in-IsMatch-clause-ok g c =
    rw c.in-IsMatch.is
    (printed_by_search c.is_match.result c.args.regex.now c.args.haystack.now c.args.output.now
    (g.W.Write.contents c.args.out.now) c.is_match.ensures.found)

pub returns-in-Find-clause-ok : goal.returns-in-Find-clause-ok
returns-in-Find-clause-ok g c = rw c.in-Find.is c.print_matches.ensures.ok

pub returns-in-Captures-clause-ok : goal.returns-in-Captures-clause-ok
returns-in-Captures-clause-ok g c = rw c.in-Captures.is c.print_captures.ensures.ok

pub returns-in-Split-clause-ok : goal.returns-in-Split-clause-ok
returns-in-Split-clause-ok g c = rw c.in-Split.is c.print_pieces.ensures.ok

pub returns-in-Replace-clause-ok : goal.returns-in-Replace-clause-ok
returns-in-Replace-clause-ok g c = rw c.in-Replace.is c.print_replaced.ensures.ok
