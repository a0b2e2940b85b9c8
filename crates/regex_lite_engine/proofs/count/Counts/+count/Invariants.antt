use Rattle.regex_lite_engine.proofs.Common.{◌≡◌, map, drop, Tree, concat, alternation, Trees, more}
use Rattle.regex_lite_engine.proofs.Common.{trees, tree_of}
use Rattle.regex_lite_engine.specs.Nfa.Saturation.{AreCountsOf}
use Rattle.regex_lite_engine.proofs.count.Counts.+count.Given as goal

abbrev pub invariant-of_branches-loop-i : goal.invariant-of_branches-loop-i
invariant-of_branches-loop-i l =
    (next : Tree) × (rest : Trees) × (trees (map tree_of (drop l.i l.branches)) ≡ more next rest)
    × AreCountsOf (alternation (more next rest)) l.counts

abbrev pub invariant-of_parts-loop-i : goal.invariant-of_parts-loop-i
invariant-of_parts-loop-i l = AreCountsOf (concat (trees (map tree_of (drop l.i l.parts)))) l.counts
