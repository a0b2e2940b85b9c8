use Rattle.regex_lite_meta.proofs.Common.{◌≡◌, map, slice_get, slice_index_or, sym, ap, ◌∙◌}
use Rattle.regex_lite_meta.proofs.Common.{refl, rules, Automaton, way_in, match_flag_in, state_in}
use Rattle.regex_lite_meta.proofs.Common.{StoredState, classes_in}
use Rattle.regex_lite_meta.proofs.lazy_dfa.StoredStateLemmas.{row, state_at}
use Rattle.regex_lite_meta.proofs.lazy_dfa.automaton.LazyDfa.is_state.Goals as goal

pub returns-then-is_like : goal.returns-then-is_like
returns-then-is_like c = λ same.
    let i = c.self.inside in
    let y = c.args.y in
    let like = c.if-is_like.ensures in
    let found : StoredState = c.index.result.now in
    let stored : slice_index_or i.states.items y found ≡ found = search rules in
    let at = sym (ap (λ (z : Automaton). slice_get z.states y) c.self.view_is)
    ∙ state_at i.states.items i.ways.items (classes_in i.classes) i.next_states.items y found
    (search rules) in
    record {
      state = state_in i.ways.items (row (classes_in i.classes) i.next_states.items y)
          (slice_index_or i.states.items y found);
      is = at;
      ways =
          sym (c.ways.ensures _ at) ∙ ap (map way_in) (c.are_same.ensures same)
          ∙ c.pending.ensures;
      searching = ap (λ (s : StoredState). s.searching) stored ∙ like.searching refl;
      before = ap (λ (s : StoredState). s.before) stored ∙ like.before refl;
      match_flag = ap (λ (s : StoredState). match_flag_in s.match_flag) stored ∙ ap match_flag_in
          (like.match_flag refl);
      restarts = ap (λ (s : StoredState). s.restarts) stored ∙ like.restarts refl;
    }
