use Rattle.regex_lite_meta.proofs.Common.{◌≡◌, ◌-◌, ◌==◌, true, length, None, chars, not}
use Rattle.regex_lite_meta.specs.LazyDfa.Scanning.{GoesOn}
use Rattle.regex_lite_meta.proofs.lazy_dfa.automaton.LazyDfa.scan_on.Given as goal

abbrev pub invariant-positions : goal.invariant-positions
invariant-positions g l = record {
  none : not (g.row.EARLIEST == 0) ≡ true → l.at.best ≡ None;
  on : GoesOn (g.P.Patterns.table l.patterns) (g.P.Patterns.entries l.patterns)
      (chars l.haystack) l.self l.initial.at l.at;
}

abbrev pub decreases-positions : goal.decreases-positions
decreases-positions g l = length l.haystack - l.at.at
