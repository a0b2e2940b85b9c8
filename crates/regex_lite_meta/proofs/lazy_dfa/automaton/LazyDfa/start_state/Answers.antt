use Rattle.regex_lite_meta.proofs.Common.{IfSome, position_at, subst, rules}
use Rattle.regex_lite_meta.specs.LazyDfa.Automaton.{IsEmptyState}
use Rattle.regex_lite_engine.proofs.PositionLemmas.{position_is}
use Rattle.regex_lite_meta.proofs.lazy_dfa.BeginLemmas.{any_before}
use Rattle.regex_lite_meta.proofs.lazy_dfa.automaton.LazyDfa.start_state.Goals as goal

pub returns-then-not-has_looks : goal.returns-then-not-has_looks
returns-then-not-has_looks c =
    any_before c.args.self.now c.empty_state.result _ (search rules) c.empty_state.ensures

pub returns : goal.returns
returns c =
    let bs = c.args.haystack.now in
    let at = c.args.at in
    subst (λ last. IfSome c.empty_state-2.result (λ x. IsEmptyState c.args.self.now x last))
    (c.last_char.ensures (position_at bs at) (position_is bs at c.utf8.haystack
    c.requires.boundary))
    c.empty_state-2.ensures
