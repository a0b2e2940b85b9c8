use Rattle.std.proofs.Common.{◌≡◌, IfSome}
use Rattle.line_filter.specs.Lines.{IsSelected, LineMatches}
use Rattle.line_filter.proofs.FilterLemmas.{IsReading}
use Rattle.line_filter.proofs.filter.filter.Given as goal

abbrev pub invariant-loop-turn : goal.invariant-loop-turn
invariant-loop-turn g l = record {
  same : l.searcher ≡ l.fn.searcher;
  so_far : IfSome (g.R.Read.remaining l.fn.input) (λ bytes.
      IsReading (IsSelected l.selection (LineMatches l.fn.searcher)) bytes l.block
      (g.R.Read.remaining l.input) (g.W.Write.contents l.fn.output)
      (g.W.Write.contents l.output) l.found);
}
