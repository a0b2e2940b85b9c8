use Rattle.regex_lite_meta.proofs.Common.{[], ap, ◌∙◌, Automaton}
use Rattle.regex_lite_meta.proofs.lazy_dfa.StoredChangeLemmas.{seen_cut}
use Rattle.regex_lite_meta.proofs.lazy_dfa.automaton.LazyDfa.drop_pending.Goals as goal

pub returns : goal.returns
returns c =
    let i = c.self.inside in
    let v = c.self.invariant in
    seen_cut i.classes i.reach i.states.items i.next_states.items i.used i.ways.items v.0 v.1
    c.truncate.new.self.items
    c.truncate.ensures.items
    ∙ ap (λ (z : Automaton). record z { pending = [] }) c.self.view_is
