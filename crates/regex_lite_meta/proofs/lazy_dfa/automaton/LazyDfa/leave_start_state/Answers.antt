use Rattle.regex_lite_meta.proofs.Common.{chars}
use Rattle.regex_lite_engine.proofs.search.SkipLemmas.{stays}
use Rattle.regex_lite_meta.proofs.lazy_dfa.automaton.LazyDfa.leave_start_state.Goals as goal

pub returns-then-is_worth_stepping : goal.returns-then-is_worth_stepping
returns-then-is_worth_stepping g c = λ p is. stays (chars c.args.haystack.now) p c.args.here is
