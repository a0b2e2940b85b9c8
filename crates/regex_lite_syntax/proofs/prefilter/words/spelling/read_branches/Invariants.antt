use Rattle.regex_lite_syntax.proofs.Common.{take, map, tree_of, trees}
use Rattle.regex_lite_syntax.specs.Prefilter.WholeWords.{AreWholeWords}
use Rattle.regex_lite_syntax.specs.Prefilter.WordLists.{all_words}
use Rattle.regex_lite_syntax.proofs.prefilter.words.spelling.read_branches.Given as goal

-- the branches so far are the words so far
abbrev pub invariant-branches : goal.invariant-branches
invariant-branches l =
    AreWholeWords (trees (map tree_of (take l.number l.branches))) (all_words l.list)
