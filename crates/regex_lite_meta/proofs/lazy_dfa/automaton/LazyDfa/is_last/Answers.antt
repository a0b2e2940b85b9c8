use Rattle.regex_lite_meta.proofs.Common.{None, ap}
use Rattle.regex_lite_meta.specs.LazyDfa.Stored.{known_match_flag}
use Rattle.regex_lite_meta.proofs.lazy_dfa.automaton.LazyDfa.is_last.Goals as goal

pub returns-in-NonSpecial-clause-none : goal.returns-in-NonSpecial-clause-none
returns-in-NonSpecial-clause-none g c = λ state at earliest reported.
    ((c.requires.kind state at).goes None (ap known_match_flag c.in-NonSpecial.is)).1
