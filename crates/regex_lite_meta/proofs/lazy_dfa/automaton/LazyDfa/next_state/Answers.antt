use Rattle.regex_lite_meta.proofs.Common.{rules}
use Rattle.regex_lite_meta.proofs.lazy_dfa.NextStateLemmas.{next_state_there, next_state_within}
use Rattle.regex_lite_meta.proofs.lazy_dfa.automaton.LazyDfa.next_state.Goals as goal

pub overflow_add-result : goal.overflow_add-result
overflow_add-result c =
    let is = c.requires.row in
    let inside = next_state_within c.args.self.now c.next_states.result.now c.next_states.ensures
    c.args.row c.args.class is.0 is.1 c.requires.class in
    search (inside, rules)

pub offset_bounds-next_states-row : goal.offset_bounds-next_states-row
offset_bounds-next_states-row c =
    let is = c.requires.row in
    let inside = next_state_within c.args.self.now c.next_states.result.now c.next_states.ensures
    c.args.row c.args.class is.0 is.1 c.requires.class in
    search (inside, rules)

pub bounds-next_states-row : goal.bounds-next_states-row
bounds-next_states-row c =
    let is = c.requires.row in
    next_state_within c.args.self.now c.next_states.result.now c.next_states.ensures c.args.row
    c.args.class is.0 is.1 c.requires.class

pub returns : goal.returns
returns c = λ x is.
    next_state_there c.args.self.now c.next_states.result.now c.next_states.ensures c.args.row
    c.args.class x is c.requires.class _
