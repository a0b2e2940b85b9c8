use Rattle.regex_lite_syntax.proofs.Common.{◌∙◌, concat, map, take, tree_of, trees}
use Rattle.regex_lite_syntax.proofs.prefilter.words.RowLemmas.{reads_row}
use Rattle.regex_lite_syntax.proofs.prefilter.words.WordWalkLemmas.{extends_spelled}
use Rattle.regex_lite_syntax.proofs.prefilter.words.walk.WordWalk.extend_by_row.Goals as goal

pub returns-clause-grown : goal.returns-clause-grown
returns-clause-grown c =
    let parts = trees (map tree_of (take c.in_ok-read.read c.args.parts.now)) in
    let adds = c.in_ok-read.ensures.row in
    extends_spelled (concat parts) adds.letters c.args.self.now c.close_if_long.new.self
    c.if-not-self.false (c.close_if_long.ensures ∙ adds.added)
    (reads_row parts adds.letters adds.are)
