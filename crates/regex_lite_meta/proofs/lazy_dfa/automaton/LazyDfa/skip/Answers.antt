use Rattle.regex_lite_meta.proofs.Common.{rules, slice_get_within}
use Rattle.regex_lite_meta.proofs.lazy_dfa.ScanLemmas.{best_none}
use Rattle.regex_lite_meta.proofs.lazy_dfa.automaton.LazyDfa.skip.Goals as goal

pub skip_start_state-requires-clause-none : goal.skip_start_state-requires-clause-none
skip_start_state-requires-clause-none g c =
    best_none c.args.at.now.best c.is_some.result c.is_some.ensures c.if-is_some.false

pub skip_start_state-requires-clause-empty : goal.skip_start_state-requires-clause-empty
skip_start_state-requires-clause-empty g c = λ state is.
    (c.if-not-is_empty.ensures state is).0 (search rules)

pub is_empty-requires : goal.is_empty-requires
is_empty-requires g c =
    let scanning = c.requires.scanning.2 in
    slice_get_within c.args.self.now.states c.args.at.now.state scanning.state scanning.is_state
