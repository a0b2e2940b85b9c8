use Rattle.regex_lite_meta.proofs.Common.{sym, ap, ◌∙◌}
use Rattle.regex_lite_meta.specs.LazyDfa.Automaton.{State, first_left}
use Rattle.regex_lite_meta.proofs.lazy_dfa.StoredStateLemmas.{is_stored}
use Rattle.regex_lite_syntax.proofs.OptionLemmas.{same_some}
use Rattle.regex_lite_meta.proofs.lazy_dfa.automaton.LazyDfa.first_after.Goals as goal

pub returns-then-index : goal.returns-then-index
returns-then-index c = λ state at.
    let i = c.self.inside in
    let own = is_stored i.classes i.reach i.states.items i.next_states.items i.used i.ways.items
    c.args.self.now c.self.view_is c.args.x c.index.result.now c.index.ensures c.requires in
    ap (λ restarts. first_left restarts c.args.first c.args.at)
    (sym c.if-index.true ∙ ap (λ (s : State). s.restarts) (same_some (sym own ∙ at)))

pub returns-else-index : goal.returns-else-index
returns-else-index c = λ state at.
    let i = c.self.inside in
    let own = is_stored i.classes i.reach i.states.items i.next_states.items i.used i.ways.items
    c.args.self.now c.self.view_is c.args.x c.index.result.now c.index.ensures c.requires in
    ap (λ restarts. first_left restarts c.args.first c.args.at)
    (sym c.if-index.false ∙ ap (λ (s : State). s.restarts) (same_some (sym own ∙ at)))
