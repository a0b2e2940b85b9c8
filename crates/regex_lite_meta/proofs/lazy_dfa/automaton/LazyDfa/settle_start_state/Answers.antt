use Rattle.regex_lite_meta.proofs.Common.{sym, subst, arith, FitsTable}
use Rattle.regex_lite_syntax.proofs.OptionLemmas.{not_there}
use Rattle.regex_lite_meta.proofs.lazy_dfa.CachedLemmas.{still_is_dfa}
use Rattle.regex_lite_meta.proofs.lazy_dfa.automaton.LazyDfa.settle_start_state.Goals as goal

pub returns-clause-is_dfa : goal.returns-clause-is_dfa
returns-clause-is_dfa c = λ table entries is_dfa.
    let old = c.args.self.now in
    still_is_dfa table entries old c.settle.new.self is_dfa c.settle.ensures.extends
    (subst (FitsTable table entries) (sym c.requires.none_pending) (record {
      below = λ k way there. absurd (not_there there);
      few = omega arith;
      own = λ low len part. omega arith;
    }))
