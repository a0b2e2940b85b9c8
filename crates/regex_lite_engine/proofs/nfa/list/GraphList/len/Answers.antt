use Rattle.regex_lite_engine.proofs.Common.{◌<◌, length, subst, rules, StoredList}
use Rattle.regex_lite_engine.proofs.search.ListOutcomeLemmas.{has_place}
use Rattle.regex_lite_engine.proofs.nfa.list.GraphList.len.Goals as goal

pub returns-clause-places : goal.returns-clause-places
returns-clause-places c = λ some.
    let there : 0 < length c.self.inside.entries.items = search rules in
    subst (λ (l : StoredList). 0 < length l.places) c.self.view_is
    (has_place (length c.self.inside.table.places) c.self.inside.entries.items c.self.invariant.0
    there)
