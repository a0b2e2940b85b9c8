use Rattle.regex_lite_engine.proofs.pikevm.walk.Walk.explore.Goals as goal

pub explore_in-requires : goal.explore_in-requires
explore_in-requires g c = rw c.table.ensures c.requires

pub returns-clause-room : goal.returns-clause-room
returns-clause-room g c = rw c.table.ensures at c.explore_in.ensures.room

pub returns-clause-explored : goal.returns-clause-explored
returns-clause-explored g c = rw c.table.ensures at c.explore_in.ensures.explored
