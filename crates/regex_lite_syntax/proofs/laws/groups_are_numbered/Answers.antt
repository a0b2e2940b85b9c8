use Rattle.regex_lite_syntax.proofs.grammar.NumberedTreeLemmas.{numbered_increasing}
use Rattle.regex_lite_syntax.proofs.grammar.NumberingLemmas.{grammar_numbered}
use Rattle.regex_lite_syntax.proofs.laws.groups_are_numbered.Goals as goal

pub returns : goal.returns
returns c = λ flags pattern tree (groups, deepest, g).
    numbered_increasing tree 0 (grammar_numbered flags pattern tree groups deepest g)
