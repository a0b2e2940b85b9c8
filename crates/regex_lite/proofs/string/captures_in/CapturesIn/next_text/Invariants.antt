use Rattle.regex_lite.proofs.Common.{◌≡◌, texts_from}
use Rattle.regex_lite.proofs.string.captures_in.CapturesIn.next_text.Given as goal

abbrev pub invariant-loop-k : goal.invariant-loop-k
invariant-loop-k g l = texts_from l.self l.k ≡ texts_from l.self l.from
