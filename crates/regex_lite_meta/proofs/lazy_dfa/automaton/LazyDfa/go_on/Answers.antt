use Rattle.regex_lite_meta.proofs.Common.{refl}
use Rattle.regex_lite_meta.proofs.lazy_dfa.automaton.LazyDfa.go_on.Goals as goal

-- the next position is the one that is looked up
pub returns-then-is_empty-clause-here : goal.returns-then-is_empty-clause-here
returns-then-is_empty-clause-here c = λ p is. (c.next.result, c.next.ensures p is, refl)

pub returns-else-is_empty-clause-here : goal.returns-else-is_empty-clause-here
returns-else-is_empty-clause-here c = λ p is. (c.next.result, c.next.ensures p is, refl)
