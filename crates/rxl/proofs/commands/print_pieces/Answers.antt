use Rattle.std.proofs.Common.{◌++◌, [], refl, subst, sym}
use Rattle.rxl.specs.Printed.{piece_line}
use Rattle.rxl.proofs.OutputLemmas.{puts_more, puts_nothing}
use Rattle.rxl.proofs.PieceLemmas.{PiecesFollow, line_put, pieces_end, pieces_more, pieces_start}
use Rattle.rxl.proofs.commands.print_pieces.Goals as goal

pub loop-piece-init : goal.loop-piece-init
loop-piece-init g c = record {
  printed = [];
  puts = puts_nothing c.args.output.now (g.W.Write.contents c.args.out.now);
  follow = subst (λ it. PiecesFollow c.args.regex.now c.args.haystack.now it [])
      (sym c.into_iter-piece-iterator.ensures.into_iter_gives)
      (pieces_start c.args.regex.now c.args.haystack.now c.in_ok-piece-items.piece-items
      (λ list. (c.in_ok-piece-items.ensures.pieces list).0));
}

pub loop-piece-preserved : goal.loop-piece-preserved
loop-piece-preserved g c =
    let held = c.loop-piece.invariant in
    let piece = c.in-Some.piece.now in
    record {
      printed = held.printed ++ piece_line piece;
      puts = puts_more c.args.output.now c.loop-piece.output c.text-in-loop-piece-2.new.self
          (g.W.Write.contents c.args.out.now) (g.W.Write.contents c.loop-piece.out)
          (g.W.Write.contents c.text-in-loop-piece-2.new.out) held.printed
          (piece_line piece) held.puts
          (line_put c.loop-piece.output c.text.new.self c.text-in-loop-piece.new.self
          c.text-in-loop-piece-2.new.self
          (g.W.Write.contents c.loop-piece.out) (g.W.Write.contents c.text.new.out)
          (g.W.Write.contents c.text-in-loop-piece.new.out)
          (g.W.Write.contents c.text-in-loop-piece-2.new.out) piece
          c.text.ensures c.text-in-loop-piece.ensures c.text-in-loop-piece-2.ensures);
      follow = pieces_more c.args.regex.now c.args.haystack.now c.loop-piece.piece-iterator
          c.next.new.self held.printed piece held.follow c.in-Some.ensures.steps.1;
    }

pub returns-clause-ok : goal.returns-clause-ok
returns-clause-ok g c =
    let held = c.loop-piece.invariant in (
      held.printed,
      (
        refl,
        pieces_end c.args.regex.now c.args.haystack.now c.loop-piece.piece-iterator held.printed
            held.follow c.in-None.ensures.steps.0,
      ),
      held.puts,
    )

pub returns-clause-kept : goal.returns-clause-kept
returns-clause-kept g c = (c.loop-piece.invariant.printed, tt, c.loop-piece.invariant.puts)
