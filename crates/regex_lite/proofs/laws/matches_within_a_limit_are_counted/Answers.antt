use Rattle.regex_lite.proofs.Common.{chars}
use Rattle.regex_lite.proofs.laws.NextMatchLemmas.{number_is_within, same_within}
use Rattle.regex_lite.proofs.laws.matches_within_a_limit_are_counted.Goals as goal

pub returns-clause-one_list : goal.returns-clause-one_list
returns-clause-one_list c = λ a. same_within a.sought (chars a.haystack) a.limit a.ended

pub returns-clause-number : goal.returns-clause-number
returns-clause-number c = number_is_within
