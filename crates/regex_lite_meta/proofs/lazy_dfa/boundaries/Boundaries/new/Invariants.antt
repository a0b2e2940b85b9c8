use Rattle.regex_lite_meta.proofs.Common.{◌≡◌, length, character_bounds}
use Rattle.regex_lite_meta.proofs.lazy_dfa.BoundaryLemmas.{AreFirst}
use Rattle.regex_lite_meta.proofs.lazy_dfa.boundaries.Boundaries.new.Given as goal

abbrev pub invariant-bounds : goal.invariant-bounds
invariant-bounds l = record {
  count : length l.bounds.boundaries ≡ l.k;
  first : AreFirst character_bounds l.k l.bounds.boundaries;
}
