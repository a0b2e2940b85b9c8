use Rattle.regex_lite_meta.proofs.Common.{drop, Grows, AreBounded}
use Rattle.regex_lite_meta.proofs.lazy_dfa.boundaries.Boundaries.add_ranges.Given as goal

-- those from this one on are bounded
abbrev pub invariant-bounds : goal.invariant-bounds
invariant-bounds l = record {
  grows : Grows l.initial.self l.self;
  bounded : AreBounded l.self.boundaries (drop l.i l.ranges);
}
