use Rattle.std.proofs.Common.{◌≡◌, length}
use Rattle.line_filter.specs.Lines.{AreFilteredUpTo, IsSelected, LineMatches, lines_of}
use Rattle.line_filter.proofs.filter.write_lines.Given as goal

abbrev pub invariant-loop-line : goal.invariant-loop-line
invariant-loop-line g l = record {
  same : l.searcher ≡ l.fn.searcher;
  so_far : AreFilteredUpTo (IsSelected l.selection (LineMatches l.fn.searcher))
      (lines_of l.fn.lines) (lines_of l.rest) (g.W.Write.contents l.fn.output)
      (g.W.Write.contents l.output) l.found;
}

abbrev pub decreases-loop-line : goal.decreases-loop-line
decreases-loop-line g l = length l.rest
