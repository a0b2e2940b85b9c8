use Rattle.regex_lite_meta.proofs.Common.{◌≡◌, length, ap, subst, arith, rules, Automaton}
use Rattle.regex_lite_meta.proofs.Common.{classes_in, slice_get_within, sym, ◌<◌}
use Rattle.std.specs.Vec.{vec_len}
use Rattle.regex_lite_meta.proofs.lazy_dfa.StoredStateLemmas.{length_states}
use Rattle.regex_lite_meta.proofs.lazy_dfa.automaton.LazyDfa.settle.Goals as goal

pub put_start-requires : goal.put_start-requires
put_start-requires c =
    let i = c.self.inside in
    let is = c.add.ensures.state c.if-not-add.false in
    let within = slice_get_within c.add.new.self.states _ is.state is.is in
    let count : vec_len i.states ≡ length i.states.items = search rules in
    let len = c.len-y.ensures in
    let all = length_states i.states.items i.ways.items (classes_in i.classes)
    i.next_states.items in
    let view = ap (λ (z : Automaton). length z.states) c.self.view_is in
    subst (λ (z : Automaton). c.len-y.result < length z.states) (sym c.put_number.ensures)
    (omega (arith, within, count, len, all, view))
