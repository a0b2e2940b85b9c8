use Rattle.regex_lite_syntax.proofs.Common.{take, map, tree_of, trees}
use Rattle.regex_lite_syntax.specs.Prefilter.Spelling.{AddsLetters, AddsRow}
use Rattle.regex_lite_syntax.specs.Prefilter.WholeWords.{ArePasses, IsSpelled}
use Rattle.regex_lite_syntax.proofs.prefilter.words.spelling.+read_word.Given as goal

-- the letters of the parts so far were added
abbrev pub invariant-read_parts-parts : goal.invariant-read_parts-parts
invariant-read_parts-parts l = AddsRow (trees (map tree_of (take l.k l.parts))) l.fn.list l.list

-- those of so many passes were
abbrev pub invariant-read_passes-passes : goal.invariant-read_passes-passes
invariant-read_passes-passes l =
    AddsLetters (ArePasses (IsSpelled (tree_of l.body)) l._k) l.fn.list l.list
