use Rattle.regex_lite_meta.proofs.Common.{[], sym, refl, ap, ◌∙◌, subst, Automaton, IsDfaOf}
use Rattle.regex_lite_meta.proofs.lazy_dfa.DeterminizeLemmas.{is_dfa_settled}
use Rattle.regex_lite_meta.proofs.lazy_dfa.automaton.LazyDfa.state_at.Goals as goal

pub returns-clause-is_dfa : goal.returns-clause-is_dfa
returns-clause-is_dfa g c =
    let a = c.args in
    let patterns = a.patterns.now in
    let between = c.requires.between in
    (is_dfa_settled (g.P.Patterns.table patterns) (g.P.Patterns.entries patterns) a.self.now
    c.gather.new.self
    c.settle.new.self a.at.first a.cache.now.walk.memory.threads
    (c.if-not-gather.ensures.gathered refl) c.requires.none_pending c.requires.is_dfa
    between.below between.few c.requires.own c.settle.ensures.extends).1

pub returns-then-not-gather-clause-is_dfa : goal.returns-then-not-gather-clause-is_dfa
returns-then-not-gather-clause-is_dfa g c =
    let a = c.args in
    let same = c.drop_pending.ensures
    ∙ ap (λ (z : Automaton). record z { pending = [] }) c.gather.ensures.same
    ∙ ap (λ ways. record a.self.now { pending = ways }) (sym c.requires.none_pending) in
    subst (IsDfaOf (g.P.Patterns.table a.patterns.now) (g.P.Patterns.entries a.patterns.now))
    (sym same) c.requires.is_dfa
