use Rattle.regex_lite.proofs.Common.{chars}
use Rattle.regex_lite_engine.specs.Search.Offsets.{IsOffset}
use Rattle.regex_lite.proofs.string.fault.offset_of.Given as goal

abbrev pub invariant-loop : goal.invariant-loop
invariant-loop l = IsOffset (chars l.text) l.counter l.at
