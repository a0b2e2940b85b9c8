-- The trees that the grammar gives are regular, and their groups are numbered in order.
use Rattle.regex_lite_engine.proofs.Common.{Tree, IsRegular}
use Rattle.regex_lite_syntax.proofs.grammar.NumberedTreeLemmas.{IsNumbered}
use Rattle.regex_lite_syntax.proofs.grammar.NumberingLemmas.{grammar_numbered}
use Rattle.regex_lite_syntax.proofs.machine.RegularLemmas.{grammar_regular}
use Rattle.regex_lite_engine.specs.WayLaws.{IsPatternTree}

pub regular_tree : (tree : Tree) → IsPatternTree tree → IsRegular tree
regular_tree tree (flags, pattern, (groups, deepest, g)) =
    grammar_regular flags pattern tree groups deepest g

pub numbered_tree : (tree : Tree) → IsPatternTree tree → IsNumbered 0 tree
numbered_tree tree (flags, pattern, (groups, deepest, g)) =
    grammar_numbered flags pattern tree groups deepest g
