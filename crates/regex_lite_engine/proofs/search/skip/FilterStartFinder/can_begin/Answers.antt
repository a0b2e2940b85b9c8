use Rattle.regex_lite_engine.proofs.Common.{◌≤◌, length, sym, subst}
use Rattle.regex_lite_engine.proofs.search.here.HereLemmas.{at_most}
use Rattle.regex_lite_engine.proofs.search.skip.FilterStartFinder.can_begin.Goals as goal

pub can_begin-requires : goal.can_begin-requires
can_begin-requires c =
    subst (λ z. c.args.here.at ≤ length z) (sym c.as_bytes.ensures.value)
    (at_most c.args.haystack.now c.requires.0 c.args.here c.utf8.haystack c.requires.1)
