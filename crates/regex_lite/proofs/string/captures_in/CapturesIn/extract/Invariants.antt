use Rattle.regex_lite.proofs.Common.{◌≡◌, ◌++◌, map, length, take, texts_from}
use Rattle.regex_lite.proofs.string.captures_in.CapturesIn.extract.Given as goal

abbrev pub invariant-loop-i : goal.invariant-loop-i
invariant-loop-i g l =
    (length l.parts ≡ g.row.N)
    × (map g.T.Text.bytes (take l.i l.parts) ++ texts_from l.self l.next ≡ texts_from l.self 1)
