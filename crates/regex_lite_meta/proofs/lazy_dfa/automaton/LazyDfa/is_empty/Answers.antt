use Rattle.regex_lite_meta.proofs.Common.{slice_get, ap, ◌∙◌, rules, Automaton, classes_in}
use Rattle.regex_lite_meta.proofs.Common.{StoredState}
use Rattle.regex_lite_meta.proofs.lazy_dfa.StoredStateLemmas.{empty_by_len, len_by_empty}
use Rattle.regex_lite_meta.proofs.lazy_dfa.automaton.LazyDfa.is_empty.Goals as goal

pub returns : goal.returns
returns c = λ state at.
    let i = c.self.inside in
    let v = c.self.invariant in
    let there = ap (λ (z : Automaton). slice_get z.states c.args.x) c.self.view_is ∙ at in
    let stored = ap (λ (s : StoredState). s.len) c.index.ensures in
    let none = len_by_empty i.states.items i.used i.ways.items (classes_in i.classes)
    i.next_states.items c.args.x c.index.result.now state v.0 v.1 there in
    let empty = empty_by_len i.states.items i.used i.ways.items (classes_in i.classes)
    i.next_states.items c.args.x c.index.result.now state v.0 v.1 there in
    (λ reported. empty (search rules), λ e. let zero = none e in search rules)
