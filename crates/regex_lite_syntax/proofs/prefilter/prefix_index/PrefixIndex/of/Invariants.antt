use Rattle.regex_lite_syntax.proofs.Common.{◌≡◌, List, map, length, take, IsIndexOf}
use Rattle.regex_lite_syntax.proofs.Common.{AreEachPrefixSetsOf, PrefixSets}
use Rattle.regex_lite_syntax.proofs.prefilter.prefix_index.PrefixIndex.of.Given as goal

abbrev pub invariant-loop-number : goal.invariant-loop-number
invariant-loop-number g l = record {
  count : l.prefixes.count ≡ length l.fn.hirs;
  same : l.hirs ≡ l.fn.hirs;
  so_far : (parts : List PrefixSets)
      × AreEachPrefixSetsOf (map g.T.AsHir.tree (take l.number l.fn.hirs)) parts
      × IsIndexOf parts l.prefixes;
}
