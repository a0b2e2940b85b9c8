use Rattle.regex_lite_meta.proofs.lazy_dfa.OnwardLemmas.{then_on}
use Rattle.regex_lite_meta.proofs.lazy_dfa.automaton.LazyDfa.scan.Goals as goal

pub scan_on-requires-clause-scanning : goal.scan_on-requires-clause-scanning
scan_on-requires-clause-scanning g c =
    let from = c.requires.scanning in
    let r = c.run.ensures.on c.if-run.false from.0 from.1 from.2 in (from.0, r.0, r.2)

pub returns-else-run-clause-over : goal.returns-else-run-clause-over
returns-else-run-clause-over g c = λ over low p from.
    let r = c.run.ensures.on c.if-run.false low p from in c.scan_on.ensures.over over low r.0 r.2

pub returns-else-run-clause-on : goal.returns-else-run-clause-on
returns-else-run-clause-on g c = λ on.
    then_on (c.run.ensures.on c.if-run.false) (c.scan_on.ensures.on on)
