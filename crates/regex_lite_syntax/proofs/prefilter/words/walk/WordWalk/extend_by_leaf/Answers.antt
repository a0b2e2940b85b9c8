use Rattle.regex_lite_syntax.proofs.Common.{◌∙◌, tree_of}
use Rattle.regex_lite_syntax.proofs.prefilter.words.RowLemmas.{reads_spelled}
use Rattle.regex_lite_syntax.proofs.prefilter.words.WordWalkLemmas.{extends_spelled}
use Rattle.regex_lite_syntax.proofs.prefilter.words.walk.WordWalk.extend_by_leaf.Goals as goal

pub returns : goal.returns
returns c = λ _.
    let tree = tree_of c.args.hir.now in
    let adds = c.in_ok-spell.ensures.spelled c.if-not-branch.false in
    extends_spelled tree adds.letters c.args.self.now c.close_if_long.new.self c.if-not-self.false
    (c.close_if_long.ensures ∙ adds.added) (reads_spelled tree adds.letters adds.are)
