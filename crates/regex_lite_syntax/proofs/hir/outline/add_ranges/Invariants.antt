use Rattle.regex_lite_syntax.proofs.Common.{◌≡◌, ◌++◌, drop}
use Rattle.regex_lite_syntax.specs.Tree.Outline.{ranges_at}
use Rattle.regex_lite_syntax.proofs.hir.outline.add_ranges.Given as goal

abbrev pub invariant-loop-range : goal.invariant-loop-range
invariant-loop-range l =
    l.parts.items ++ ranges_at (drop l.range-index l.ranges) l.depth
    ≡ l.fn.parts.items ++ ranges_at l.ranges l.depth
