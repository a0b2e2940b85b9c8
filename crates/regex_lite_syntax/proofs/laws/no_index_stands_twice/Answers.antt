use Rattle.regex_lite_syntax.proofs.grammar.NumberedTreeLemmas.{numbered_differ}
use Rattle.regex_lite_syntax.proofs.grammar.NumberingLemmas.{grammar_numbered}
use Rattle.regex_lite_syntax.proofs.laws.no_index_stands_twice.Goals as goal

pub returns : goal.returns
returns c = λ flags pattern tree (groups, deepest, g).
    numbered_differ tree 0 (grammar_numbered flags pattern tree groups deepest g)
