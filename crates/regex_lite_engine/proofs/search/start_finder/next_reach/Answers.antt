use Rattle.regex_lite_engine.proofs.search.NeededLemmas.{next_inside}
use Rattle.regex_lite_engine.proofs.search.start_finder.next_reach.Goals as goal

pub returns : goal.returns
returns c =
    next_inside c.args.needed.now c.args.bytes.now c.args.from c.next_reach.result c.requires
    c.next_reach.ensures
