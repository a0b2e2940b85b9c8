use Rattle.regex_lite_meta.proofs.Common.{rules}
use Rattle.regex_lite_meta.proofs.lazy_dfa.StoredStateLemmas.{state_of_row, stored_within}
use Rattle.regex_lite_meta.proofs.lazy_dfa.automaton.LazyDfa.state_of.Goals as goal

pub overflow_cast-result : goal.overflow_cast-result
overflow_cast-result c =
    let i = c.self.inside in
    let v = c.self.invariant in
    let is = c.requires in
    let few = v.2 in
    let inside = stored_within i.classes i.reach i.states.items i.next_states.items i.used
    i.ways.items c.args.self.now c.self.view_is is.0 is.1.within in
    let same = state_of_row i.classes i.reach i.states.items i.next_states.items i.used i.ways.items
    c.args.self.now c.self.view_is c.args.row is.0 is.1 i.width v.5 in
    search (few, inside, same, rules)

pub returns : goal.returns
returns c = λ x is.
    let i = c.self.inside in
    state_of_row i.classes i.reach i.states.items i.next_states.items i.used i.ways.items
    c.args.self.now c.self.view_is c.args.row x is i.width c.self.invariant.5
