use Rattle.regex_lite_syntax.proofs.Common.{take, map, tree_of, trees}
use Rattle.regex_lite_syntax.specs.Prefilter.Spelling.{AddsRow}
use Rattle.regex_lite_syntax.proofs.prefilter.words.spelling.read_row.Given as goal

-- the letters of the parts so far were added
abbrev pub invariant-parts : goal.invariant-parts
invariant-parts l = AddsRow (trees (map tree_of (take l.k l.parts))) l.fn.list l.list
