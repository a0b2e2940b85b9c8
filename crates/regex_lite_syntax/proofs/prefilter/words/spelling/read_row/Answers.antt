use Rattle.regex_lite_syntax.proofs.Common.{arith}
use Rattle.regex_lite_syntax.proofs.prefilter.words.SpellingLemmas.{part_more}
use Rattle.regex_lite_syntax.proofs.prefilter.words.spelling.read_row.Goals as goal

pub parts-preserved : goal.parts-preserved
parts-preserved c =
    part_more c.args.parts.now c.parts.k c.index-parts-k.result c.args.list.now c.parts.list
    c.spell.new.list (omega (arith, c.parts-test.true, c.min-most.ensures)) c.index-parts-k.is
    c.parts.invariant (c.in_ok-spell.ensures.spelled c.if-not-branch.false)
