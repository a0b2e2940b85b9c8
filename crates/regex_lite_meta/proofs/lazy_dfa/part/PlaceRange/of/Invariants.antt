use Rattle.regex_lite_meta.proofs.Common.{◌≡◌, ℕ, ◌<◌, ◌≤◌, length, slice_get, Some}
use Rattle.regex_lite_engine.specs.declared.search.patterns.Start.{Start}
use Rattle.regex_lite_meta.specs.LazyDfa.Parts.{IsInPart}
use Rattle.regex_lite_meta.proofs.lazy_dfa.part.PlaceRange.of.Given as goal

-- those before this one are taken in
abbrev pub invariant-starts : goal.invariant-starts
invariant-starts g l = record {
  order : l.part.low ≤ l.part.end;
  taken : (j : ℕ) (start : Start) → j < l.k
      → slice_get (g.P.Patterns.starts l.all) j ≡ Some start → IsInPart l.part start.place;
  inside : l.part.end ≤ length (g.P.Patterns.table l.all);
}
