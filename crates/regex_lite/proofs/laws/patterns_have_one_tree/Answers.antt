use Rattle.regex_lite.proofs.Common.{chars}
use Rattle.regex_lite.proofs.ListBuildLemmas.{one_list}
use Rattle.regex_lite.proofs.OneTreeLemmas.{one_tree}
use Rattle.regex_lite.proofs.laws.TreeLemmas.{trees_are_numbered}
use Rattle.regex_lite.proofs.laws.patterns_have_one_tree.Goals as goal

pub returns-clause-one_tree : goal.returns-clause-one_tree
returns-clause-one_tree c = λ re. one_tree re.flags (chars re.pattern)

pub returns-clause-one_list : goal.returns-clause-one_list
returns-clause-one_list c = one_list

pub returns-clause-numbered : goal.returns-clause-numbered
returns-clause-numbered c = trees_are_numbered
