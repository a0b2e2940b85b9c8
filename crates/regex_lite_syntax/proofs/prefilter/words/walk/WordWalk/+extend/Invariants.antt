use Rattle.regex_lite_syntax.proofs.Common.{◌≡◌, drop, map, tree_of, trees, true}
use Rattle.regex_lite_syntax.proofs.prefilter.words.WordWalkLemmas.{ReadsBranches, ReadsParts}
use Rattle.regex_lite_syntax.proofs.prefilter.words.WordPassLemmas.{ReadsPasses}
use Rattle.regex_lite_syntax.proofs.prefilter.words.walk.WordWalk.+extend.Given as goal

abbrev pub invariant-extend_by_branches-loop-branch : goal.invariant-extend_by_branches-loop-branch
invariant-extend_by_branches-loop-branch l = record {
  all_read : l.fn.self.is_open ≡ true;
  stem : l.stem.items ≡ l.fn.self.words.last;
  reads : ReadsBranches (trees (map tree_of l.branches))
      (trees (map tree_of (drop l.branch-index l.branches))) l.fn.self l.self l.is_first;
}

abbrev pub invariant-extend_by_parts-parts : goal.invariant-extend_by_parts-parts
invariant-extend_by_parts-parts l =
    ReadsParts (trees (map tree_of l.parts)) (trees (map tree_of (drop l.k l.parts)))
    l.fn.self l.self

abbrev pub invariant-extend_by_passes-passes : goal.invariant-extend_by_passes-passes
invariant-extend_by_passes-passes l = ReadsPasses (tree_of l.body) l.pass l.fn.self l.self
