use Rattle.std.proofs.Common.{add-one}
use Rattle.regex_lite_engine.proofs.nfa.write.CapacityLemmas.{part_places, part_index}
use Rattle.regex_lite_engine.proofs.nfa.write.part_at.Goals as goal

pub returns-clause-room : goal.returns-clause-room
returns-clause-room c =
    let item = c.index-parts-i in
    rw add-one (part_places c.args.parts.now c.args.i item.result c.requires item.is)

pub returns-clause-slots : goal.returns-clause-slots
returns-clause-slots c =
    let item = c.index-parts-i in
    part_index c.args.parts.now c.args.i item.result c.requires item.is
