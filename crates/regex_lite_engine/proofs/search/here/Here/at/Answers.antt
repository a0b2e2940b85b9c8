use Rattle.regex_lite_engine.proofs.Common.{refl}
use Rattle.regex_lite_engine.proofs.search.here.HereLemmas.{here_begins}
use Rattle.regex_lite_engine.proofs.search.here.Here.at.Goals as goal

pub returns-clause-here : goal.returns-clause-here
returns-clause-here c =
    here_begins c.args.haystack.now c.args.at _ c.utf8.haystack c.requires refl c.last_char.ensures
    c.first_char.ensures
