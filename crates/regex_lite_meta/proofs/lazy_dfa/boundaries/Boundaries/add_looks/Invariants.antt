use Rattle.regex_lite_meta.proofs.Common.{Grows, look_bounds}
use Rattle.regex_lite_meta.proofs.lazy_dfa.BoundaryLemmas.{AreFirst}
use Rattle.regex_lite_meta.proofs.lazy_dfa.boundaries.Boundaries.add_looks.Given as goal

abbrev pub invariant-bounds : goal.invariant-bounds
invariant-bounds l = record {
  grows : Grows l.initial.self l.self;
  first : AreFirst look_bounds l.k l.self.boundaries;
}
