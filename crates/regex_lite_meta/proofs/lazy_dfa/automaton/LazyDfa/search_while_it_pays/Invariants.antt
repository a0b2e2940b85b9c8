use Rattle.regex_lite_meta.proofs.Common.{◌≡◌, ℕ, ◌-◌, ◌==◌, true, [], length, None, chars, not}
use Rattle.regex_lite_meta.proofs.Common.{IsDfaOf, Stands, best_of}
use Rattle.regex_lite_meta.proofs.lazy_dfa.automaton.LazyDfa.search_while_it_pays.Given as goal

abbrev pub invariant-positions : goal.invariant-positions
invariant-positions g l = record {
  is_dfa : IsDfaOf (g.P.Patterns.table l.patterns) (g.P.Patterns.entries l.patterns) l.self;
  none_pending : l.self.pending ≡ [];
  none : not (g.row.EARLIEST == 0) ≡ true → best_of l.cache.best ≡ None;
  stands : (s : ℕ)
      → Stands (g.P.Patterns.table l.patterns) (chars l.haystack) (g.P.Patterns.entries l.patterns)
      s l.initial.self l.fn.from
      l.initial.cache
      → Stands (g.P.Patterns.table l.patterns) (chars l.haystack) (g.P.Patterns.entries l.patterns)
      s l.self l.at l.cache;
}

abbrev pub decreases-positions : goal.decreases-positions
decreases-positions g l = length l.haystack - l.at.here.at
