use Rattle.regex_lite_syntax.proofs.prefilter.words.SpellingLemmas.{next_branch}
use Rattle.regex_lite_syntax.proofs.prefilter.words.spelling.read_branches.Goals as goal

pub branches-preserved : goal.branches-preserved
branches-preserved c =
    next_branch c.args.branches.now c.branches.number c.index-branches-number.result
    c.branches.list c.begin_word.new.self c.read_word-else-not-branch-2.new.list
    c.branches-test.true c.index-branches-number.is c.branches.invariant
    (c.in_ok-begin_word.ensures c.if-not-branch-2.false)
    (c.in_ok-read_word-2.ensures c.if-not-branch-3.false)
