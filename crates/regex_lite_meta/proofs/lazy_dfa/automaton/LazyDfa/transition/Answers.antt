use Rattle.regex_lite_meta.proofs.Common.{◌+◌, ◌<◌, IfSome, subst, Automaton, classes_in}
use Rattle.regex_lite_meta.specs.LazyDfa.Intervals.{IsAhead}
use Rattle.regex_lite_meta.specs.LazyDfa.Cursors.{LeadsIfKnown}
use Rattle.regex_lite_meta.proofs.lazy_dfa.NextStateLemmas.{transition_of}
use Rattle.regex_lite_meta.proofs.lazy_dfa.automaton.LazyDfa.transition.Goals as goal

pub returns-in-Some-clause-transition : goal.returns-in-Some-clause-transition
returns-in-Some-clause-transition g c =
    subst (λ ascii. IfSome ascii (λ next_state. LeadsIfKnown
    (g.P.Patterns.table c.args.patterns.now) (g.P.Patterns.entries c.args.patterns.now)
    c.args.self.now c.args.haystack.now c.args.cursor.at c.args.cursor.row next_state
    (c.args.cursor.at + 1))) c.in-Some.is c.requires.ascii

pub returns-clause-transition : goal.returns-clause-transition
returns-clause-transition g c = λ known x is.
    let class = c.in-Some-ahead.class in
    let end = c.in-Some-ahead.end in
    transition_of (g.P.Patterns.table c.args.patterns.now)
    (g.P.Patterns.entries c.args.patterns.now) c.args.self.now c.requires.is_dfa c.args.haystack.now
    c.args.cursor.at x class end is.within
    (subst (λ (z : Automaton). class < classes_in z.intervals) c.self.view_is
    c.in-Some-ahead.ensures.few) c.next_state.result (c.next_state.ensures x is) known
    (subst (λ (z : Automaton). IsAhead z.intervals.boundaries c.args.haystack.now c.args.cursor.at
    class end) c.self.view_is c.in-Some-ahead.ensures.ahead)
