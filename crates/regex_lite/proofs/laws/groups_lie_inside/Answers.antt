use Rattle.regex_lite.proofs.laws.GroupFactLemmas.{all_take_part}
use Rattle.regex_lite.proofs.laws.GroupLemmas.{enough_groups, groups_inside_match}
use Rattle.regex_lite.proofs.laws.groups_lie_inside.Goals as goal

pub returns-clause-inside : goal.returns-clause-inside
returns-clause-inside c = groups_inside_match

pub returns-clause-enough : goal.returns-clause-enough
returns-clause-enough c = enough_groups

pub returns-clause-all : goal.returns-clause-all
returns-clause-all c = all_take_part
