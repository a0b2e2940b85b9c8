use Rattle.regex_lite.proofs.laws.GroupFactLemmas.{groups_have_names, one_name_list}
use Rattle.regex_lite.proofs.laws.groups_have_one_list_of_names.Goals as goal

pub returns-clause-one_list : goal.returns-clause-one_list
returns-clause-one_list c = one_name_list

pub returns-clause-of_groups : goal.returns-clause-of_groups
returns-clause-of_groups c = groups_have_names
