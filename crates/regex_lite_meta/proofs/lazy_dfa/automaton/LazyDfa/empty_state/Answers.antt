use Rattle.regex_lite_meta.proofs.Common.{slice_get, slice_index_or, sym, refl, ap, ◌∙◌, rules}
use Rattle.regex_lite_meta.proofs.Common.{Automaton, classes_in, state_in, StoredState}
use Rattle.regex_lite_meta.proofs.lazy_dfa.StoredStateLemmas.{empty_by_len, row, state_at}
use Rattle.regex_lite_meta.proofs.lazy_dfa.automaton.LazyDfa.empty_state.Goals as goal

pub returns-then-sees_alike : goal.returns-then-sees_alike
returns-then-sees_alike c =
    let i = c.self.inside in
    let v = c.self.invariant in
    let found : StoredState = c.index-state.result.now in
    let stored = c.index-state.ensures in
    let own = state_at i.states.items i.ways.items (classes_in i.classes) i.next_states.items
    c.number-x.result found (search rules) in
    let at = sym (ap (λ (z : Automaton). slice_get z.states c.number-x.result) c.self.view_is) ∙ own in
    record {
      state = state_in i.ways.items
          (row (classes_in i.classes) i.next_states.items c.number-x.result)
          (slice_index_or i.states.items c.number-x.result found);
      is_state = at;
      none = empty_by_len i.states.items i.used i.ways.items (classes_in i.classes)
          i.next_states.items c.number-x.result found _ v.0 v.1 own
          (sym (ap (λ (s : StoredState). s.len) stored) ∙ c.if-state-eq0.true);
      searching = sym (ap (λ (s : StoredState). s.searching) stored) ∙ c.if-state.true;
      sees = λ looks.
          sym (ap (λ (s : StoredState). s.before) stored) ∙ c.if-sees_alike.ensures refl looks
          ∙ c.context-context.ensures looks;
    }
