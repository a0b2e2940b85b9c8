use Rattle.regex_lite_c.proofs.Common.{◌≡◌, false, ahead_of}
use Rattle.regex_lite_c.proofs.split.CutLemmas.{AreSoFar, Stage}
use Rattle.regex_lite_c.proofs.split.put_pieces.Given as goal

abbrev pub invariant-loop-k : goal.invariant-loop-k
invariant-loop-k l =
    let start : Stage = record {
      ahead = ahead_of l.fn.matches;
      walk = l.fn.cut.walk;
      spans = l.fn.pieces;
    } in
    let now : Stage =
    record { ahead = ahead_of l.matches; walk = l.cut.walk; spans = l.pieces } in
    AreSoFar start now l.k × (l.cut.is_over ≡ false)
