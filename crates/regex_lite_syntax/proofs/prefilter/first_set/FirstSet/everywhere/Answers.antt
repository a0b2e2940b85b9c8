use Rattle.regex_lite_syntax.proofs.Common.{true, replicate, refl}
use Rattle.regex_lite_syntax.proofs.prefilter.first_set.StartLemmas.{everywhere_begins}
use Rattle.regex_lite_syntax.proofs.prefilter.first_set.FirstSet.everywhere.Goals as goal

pub returns-clause-all : goal.returns-clause-all
returns-clause-all c =
    everywhere_begins
    (record { any = true; ascii = replicate 128 true; others = true; at_start = true })
    refl refl refl
