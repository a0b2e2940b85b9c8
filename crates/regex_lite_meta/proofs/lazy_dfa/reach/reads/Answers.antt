use Rattle.regex_lite_meta.proofs.lazy_dfa.ReachLemmas.{reads_none}
use Rattle.regex_lite_meta.proofs.lazy_dfa.reach.reads.Goals as goal

pub returns-in_default : goal.returns-in_default
returns-in_default c = λ _.
    reads_none c.args.place.now c.in_default.not-Char c.in_default.not-Class
