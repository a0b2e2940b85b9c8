use Rattle.regex_lite_engine.proofs.OffsetLemmas.{boundary_at}
use Rattle.regex_lite_engine.proofs.search.start_finder.next_start.Goals as goal

pub first_start-at-requires : goal.first_start-at-requires
first_start-at-requires g c =
    let is = c.requires.1 in
    boundary_at c.args.haystack.now c.requires.0 c.args.here.at c.utf8.haystack
    (is.inside, is.bytes)

pub returns-clause-passes : goal.returns-clause-passes
returns-clause-passes g c = λ p is. c.first_start-at.ensures.passes p (is.inside, is.bytes)
