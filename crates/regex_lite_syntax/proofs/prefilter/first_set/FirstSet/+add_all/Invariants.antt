use Rattle.regex_lite_syntax.proofs.Common.{drop, map, tree_of, trees, IsWider}
use Rattle.regex_lite_syntax.proofs.prefilter.first_set.ReadLemmas.{LeftAmong}
use Rattle.regex_lite_syntax.proofs.prefilter.first_set.FirstSet.+add_all.Given as goal

abbrev pub invariant-add_each-loop-part : goal.invariant-add_each-loop-part
invariant-add_each-loop-part l = record {
  grown : IsWider l.fn.self l.self;
  left : LeftAmong (trees (map tree_of l.parts)) (trees (map tree_of (drop l.part-index l.parts)))
      l.self;
}
