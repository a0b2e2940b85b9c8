use Rattle.regex_lite_meta.proofs.Common.{◌-◌, ◌≤◌, ℕ, chars, length}
use Rattle.regex_lite_meta.specs.LazyDfa.Cursors.{IsCursorAt}
use Rattle.regex_lite_meta.proofs.lazy_dfa.automaton.LazyDfa.pass_non_special.Given as goal

abbrev pub invariant-non_special : goal.invariant-non_special
invariant-non_special g l = record {
  on : (low p : ℕ) → IsCursorAt (g.P.Patterns.table l.patterns) (g.P.Patterns.entries l.patterns)
      (chars l.haystack) low p l.self l.fn.from l.at → (q : ℕ) × (p ≤ q)
      × IsCursorAt (g.P.Patterns.table l.patterns) (g.P.Patterns.entries l.patterns)
      (chars l.haystack) low q l.self l.cursor l.at;
  later : l.fn.from.at ≤ l.cursor.at;
}

abbrev pub decreases-non_special : goal.decreases-non_special
decreases-non_special g l = length l.bytes - l.cursor.at
