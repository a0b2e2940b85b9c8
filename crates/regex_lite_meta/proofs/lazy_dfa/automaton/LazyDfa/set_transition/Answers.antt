use Rattle.regex_lite_meta.proofs.Common.{◌+◌, ◌*◌, ◌<◌, map, drop, slice_get, slice_set, Some, sym}
use Rattle.regex_lite_meta.proofs.Common.{ap, ◌∙◌, subst, rules, Automaton, StoredState, NextState}
use Rattle.regex_lite_meta.proofs.Common.{classes_in, number_of, way_in}
use Rattle.regex_lite_meta.specs.LazyDfa.Stored.{Agrees, number_if}
use Rattle.std.proofs.lemmas.Option.{slice_get-get_or}
use Rattle.std.proofs.Common.{length-set}
use Rattle.std.proofs.lemmas.List.Elements.{All-set}
use Rattle.regex_lite_meta.proofs.lazy_dfa.StoredChangeLemmas.{states_set}
use Rattle.regex_lite_meta.proofs.lazy_dfa.StoredStateLemmas.{cell_within, stored_within}
use Rattle.regex_lite_meta.proofs.lazy_dfa.automaton.LazyDfa.set_transition.Goals as goal

pub invariant_of-self : goal.invariant_of-self
invariant_of-self c =
    let i = c.self.inside in
    let v = c.self.invariant in
    let to : StoredState = c.index.result.now in
    let next_state : NextState =
    record { row = c.row.result; state = c.args.y; kind = c.kind.result } in
    let same = ap (λ (z : Automaton). classes_in z.intervals) (sym c.self.view_is) in
    let inside = stored_within i.classes i.reach i.states.items i.next_states.items i.used
    i.ways.items c.args.self.now c.self.view_is c.args.y c.requires.next_state in (
      v.0,
      v.1,
      v.2,
      All-set (Agrees i.states.items (classes_in i.classes)) i.next_states.items
          (c.row-2.result + c.args.class) next_state
          (record {
            row = λ _. c.row.ensures ∙ ap (λ n. c.args.y * n) same;
            within = λ _. inside;
            kind = λ match_flag reported. record {
              state = to;
              is_state =
                  slice_get-get_or i.states.items c.args.y to inside
                  ∙ ap Some (sym c.index.ensures);
              some = c.kind.ensures.some match_flag reported;
              same = c.kind.ensures.match_flag match_flag reported;
              first = c.kind.ensures.restarts match_flag reported;
            };
            ends = λ match_flag reported. record {
              state = to;
              is_state =
                  slice_get-get_or i.states.items c.args.y to inside
                  ∙ ap Some (sym c.index.ensures);
              none = c.kind.ensures.none match_flag reported;
              same = c.kind.ensures.last match_flag reported;
            };
          }) v.3,
      length-set i.next_states.items (c.row-2.result + c.args.class) next_state ∙ v.4,
      v.5,
      v.6,
    )

pub returns : goal.returns
returns c = λ state at.
    let i = c.self.inside in
    let x = c.args.x in
    let class = c.args.class in
    let next_state : NextState =
    record { row = c.row.result; state = c.args.y; kind = c.kind.result } in
    let same = ap (λ (z : Automaton). classes_in z.intervals) (sym c.self.view_is) in
    let there = ap (λ (z : Automaton). slice_get z.states x) c.self.view_is ∙ at in
    ap (λ states. record {
      intervals = i.classes;
      reach = i.reach;
      states = states;
      pending = map way_in (drop i.used i.ways.items);
    })
    (states_set i.states.items i.ways.items (classes_in i.classes) i.next_states.items x class
    (c.row-2.result + class) next_state state
    (ap (λ row. row + class) (c.row-2.ensures ∙ ap (λ n. x * n) same))
    (subst (λ n. class < n) same c.requires.class) there)
    ∙ ap (λ (z : Automaton). record z {
      states = slice_set z.states x
          (record state { next = slice_set state.next class (number_of next_state) });
    }) c.self.view_is
    ∙ ap (λ y. record c.args.self.now {
      states = slice_set c.args.self.now.states x
          (record state { next = slice_set state.next class y });
    }) (ap (λ known. number_if known c.args.y) c.kind.ensures.known)

pub index-requires : goal.index-requires
index-requires c =
    let i = c.self.inside in
    let inside = stored_within i.classes i.reach i.states.items i.next_states.items i.used
    i.ways.items c.args.self.now c.self.view_is c.args.y c.requires.next_state in
    search (inside, rules)

pub index_mut-requires : goal.index_mut-requires
index_mut-requires c =
    let i = c.self.inside in
    let inside = cell_within i.classes i.reach i.states.items i.next_states.items i.used
    i.ways.items c.args.self.now c.self.view_is c.self.invariant.4 c.args.x c.args.class
    c.requires.state c.requires.class in
    search (inside, rules)
