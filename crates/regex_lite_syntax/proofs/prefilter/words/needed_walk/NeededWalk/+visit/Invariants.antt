use Rattle.regex_lite_syntax.proofs.Common.{drop, map, tree_of, trees}
use Rattle.regex_lite_syntax.proofs.prefilter.words.NeededWalkLemmas.{FindsParts, FindsPasses}
use Rattle.regex_lite_syntax.specs.Prefilter.NeededWalk.{as_needed}
use Rattle.regex_lite_syntax.proofs.prefilter.words.NeededBranchLemmas.{EachIfLeft}
use Rattle.regex_lite_syntax.proofs.prefilter.words.needed_walk.NeededWalk.+visit.Given as goal

abbrev pub invariant-visit_parts-loop-number : goal.invariant-visit_parts-loop-number
invariant-visit_parts-loop-number l =
    FindsParts (trees (map tree_of l.parts)) (trees (map tree_of (drop l.number l.parts)))
    l.fn.self l.self

abbrev pub invariant-visit_passes-passes : goal.invariant-visit_passes-passes
invariant-visit_passes-passes l = FindsPasses (tree_of l.body) l._k l.fn.self l.self

abbrev pub invariant-words_of-loop-branch : goal.invariant-words_of-loop-branch
invariant-words_of-loop-branch l =
    EachIfLeft (trees (map tree_of l.branches)) (trees (map tree_of (drop l.branch-index
    l.branches))) (as_needed l.found.words l.found.lead)
