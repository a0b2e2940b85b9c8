use Rattle.regex_lite_meta.proofs.Common.{sym, ap, ◌∙◌, match_flag_in, searching_after}
use Rattle.regex_lite_meta.specs.LazyDfa.Automaton.{State}
use Rattle.regex_lite_meta.proofs.lazy_dfa.StoredStateLemmas.{is_stored}
use Rattle.regex_lite_syntax.proofs.OptionLemmas.{same_some}
use Rattle.regex_lite_meta.proofs.lazy_dfa.automaton.LazyDfa.searching_after.Goals as goal

pub returns-in-Nowhere : goal.returns-in-Nowhere
returns-in-Nowhere c = λ state at.
    let i = c.self.inside in
    let own = is_stored i.classes i.reach i.states.items i.next_states.items i.used i.ways.items
    c.args.self.now c.self.view_is c.args.x c.index.result.now c.index.ensures c.requires in
    ap (λ (s : State). s.searching) (same_some (sym own ∙ at))
    ∙ sym (ap (λ match_flag. searching_after (match_flag_in match_flag) state.searching)
    c.in-Nowhere.is)
