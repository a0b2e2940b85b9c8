use Rattle.regex_lite_meta.proofs.Common.{slice_get_within}
use Rattle.regex_lite_meta.proofs.lazy_dfa.automaton.LazyDfa.stay_in_start_state.Goals as goal

pub knows-requires : goal.knows-requires
knows-requires g c =
    let in_start = c.in_ok-state.ensures in
    slice_get_within c.args.self.now.states c.in_ok-state.state in_start.state in_start.is_state
