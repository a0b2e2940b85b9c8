use Rattle.regex_lite_meta.proofs.Common.{◌≡◌, ◌+◌, ◌-◌, ◌≤◌, length, map, take, drop, sym, ap, ◌∙◌}
use Rattle.regex_lite_meta.proofs.Common.{subst, arith, rules, StoredState, way_in}
use Rattle.regex_lite_meta.specs.LazyDfa.Automaton.{State}
use Rattle.regex_lite_meta.proofs.lazy_dfa.StoredStateLemmas.{is_stored, stored_within}
use Rattle.regex_lite_syntax.proofs.OptionLemmas.{same_some}
use Rattle.regex_lite_meta.proofs.lazy_dfa.automaton.LazyDfa.ways.Goals as goal
use Rattle.regex_lite_meta.proofs.lazy_dfa.automaton.LazyDfa.ways.Goals.{After-index}

pub returns : goal.returns
returns c = λ state at.
    let i = c.self.inside in
    let found : StoredState = c.index.result.now in
    let own = is_stored i.classes i.reach i.states.items i.next_states.items i.used i.ways.items
    c.args.self.now c.self.view_is c.args.y found c.index.ensures c.requires in
    let len : found.from + found.len - found.from ≡ found.len = omega arith in
    ap (λ n. map way_in (take n (drop found.from c.deref.result.now))) len
    ∙ ap (λ ways. map way_in (take found.len (drop found.from ways))) c.deref.ensures.value
    ∙ ap (λ (s : State). s.ways) (same_some (sym own ∙ at))

pub index-requires : goal.index-requires
index-requires c =
    let i = c.self.inside in
    let inside = stored_within i.classes i.reach i.states.items i.next_states.items i.used
    i.ways.items c.args.self.now c.self.view_is c.args.y c.requires in
    search (inside, rules)

-- the ways of the state lie among those of all
lies : (c : After-index) →
    c.index.result.now.from + c.index.result.now.len ≤ length c.self.inside.ways.items
lies c =
    let i = c.self.inside in
    let inside = stored_within i.classes i.reach i.states.items i.next_states.items i.used
    i.ways.items c.args.self.now c.self.view_is c.args.y c.requires in
    let own = subst (λ (s : StoredState). s.from + s.len ≤ i.used) (sym c.index.ensures)
    (c.self.invariant.0 c.args.y c.index.result.now inside) in
    let fits = c.self.invariant.1 in omega (arith, own, fits)

pub overflow_add-result : goal.overflow_add-result
overflow_add-result c =
    let inside = lies (goal.at.overflow_add-result c).After-index in search (inside, rules)

pub offset_bounds-deref-from : goal.offset_bounds-deref-from
offset_bounds-deref-from c =
    let inside = lies (goal.at.offset_bounds-deref-from c).After-index in search (inside, rules)

pub slice_bounds-result-end : goal.slice_bounds-result-end
slice_bounds-result-end c =
    let inside = lies (goal.at.slice_bounds-result-end c).After-index in
    let value = ap length c.deref.ensures.value in omega (arith, inside, value)
