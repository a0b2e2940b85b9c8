use Rattle.regex_lite_syntax.proofs.Common.{take}
use Rattle.regex_lite_syntax.specs.Prefilter.Spelling.{AddsBytes}
use Rattle.regex_lite_syntax.proofs.prefilter.words.spelling.push_bytes.Given as goal

abbrev pub invariant-bytes : goal.invariant-bytes
invariant-bytes l = AddsBytes (take l.k l.bytes) l.fn.list l.list
