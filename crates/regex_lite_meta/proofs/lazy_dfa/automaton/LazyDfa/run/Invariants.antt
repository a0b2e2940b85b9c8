use Rattle.regex_lite_meta.proofs.Common.{◌≡◌, ◌-◌, ◌==◌, true, length, None, chars, not}
use Rattle.regex_lite_meta.specs.LazyDfa.Intervals.{IsInterval}
use Rattle.regex_lite_meta.proofs.lazy_dfa.OnwardLemmas.{GoesToCursor}
use Rattle.regex_lite_meta.proofs.lazy_dfa.automaton.LazyDfa.run.Given as goal

abbrev pub invariant-transitions : goal.invariant-transitions
invariant-transitions g l = record {
  near : IsInterval l.self.intervals.boundaries l.near;
  none : not (g.row.EARLIEST == 0) ≡ true → l.at.best ≡ None;
  on : GoesToCursor (g.P.Patterns.table l.patterns) (g.P.Patterns.entries l.patterns)
      (chars l.haystack) l.self l.initial.at l.cursor l.at;
}

abbrev pub decreases-transitions : goal.decreases-transitions
decreases-transitions g l = length l.haystack - l.cursor.at
