use Rattle.regex_lite_meta.proofs.Common.{◌≡◌, ◌-◌, ◌==◌, true, length, None, chars, not}
use Rattle.regex_lite_meta.specs.LazyDfa.Scanning.{GoesOn}
use Rattle.regex_lite_meta.proofs.lazy_dfa.automaton.LazyDfa.run_with_skips.Given as goal

abbrev pub invariant-prefilter_skips : goal.invariant-prefilter_skips
invariant-prefilter_skips g l = record {
  none : not (g.row.EARLIEST == 0) ≡ true → l.at.best ≡ None;
  on : GoesOn (g.P.Patterns.table l.patterns) (g.P.Patterns.entries l.patterns)
      (chars l.haystack) l.self l.initial.at l.at;
}

abbrev pub decreases-prefilter_skips : goal.decreases-prefilter_skips
decreases-prefilter_skips g l = length l.haystack - l.at.at
