use Rattle.std.proofs.Common.{ℕ, List}
use Rattle.rxl.specs.Output.{Puts}
use Rattle.rxl.proofs.PieceLemmas.{PiecesFollow}
use Rattle.rxl.proofs.commands.print_pieces.Given as goal

abbrev pub invariant-loop-piece : goal.invariant-loop-piece
invariant-loop-piece g l = record {
  printed : List ℕ;
  puts : Puts l.fn.output (g.W.Write.contents l.fn.out) l.output (g.W.Write.contents l.out) printed;
  follow : PiecesFollow l.fn.regex l.fn.haystack l.piece-iterator printed;
}
