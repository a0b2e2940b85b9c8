use Rattle.regex_lite_meta.proofs.Common.{slice_index, chars, table_of_list}
use Rattle.regex_lite_engine.proofs.search.here.HereLemmas.{at_most}
use Rattle.regex_lite_meta.proofs.list_matches.PassLemmas.{no_sooner, none_yet}
use Rattle.regex_lite_meta.proofs.list_matches.kept.Kept.try_at.Goals as goal

pub overflow_sub-haystack : goal.overflow_sub-haystack
overflow_sub-haystack c =
    at_most c.args.haystack.now c.requires.here.0 c.args.here c.utf8.haystack c.requires.here.1

pub returns-then-dfa_pays-clause-reported : goal.returns-then-dfa_pays-clause-reported
returns-then-dfa_pays-clause-reported c = λ p is.
    let table = table_of_list c.args.list.now in
    let haystack = c.args.haystack.now in
    let entry = slice_index c.args.list.now.entries c.args.number in
    no_sooner table haystack c.utf8.haystack entry p p c.args.here is
    (none_yet table (chars haystack) entry p)
