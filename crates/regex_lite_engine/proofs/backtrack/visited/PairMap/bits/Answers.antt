use Rattle.regex_lite_engine.proofs.Common.{ap, ◌∙◌, bits_of}
use Rattle.regex_lite_engine.proofs.backtrack.BitLemmas.{none_of_zeros}
use Rattle.regex_lite_engine.proofs.backtrack.visited.PairMap.bits.Goals as goal

pub returns-then-count-clause-none : goal.returns-then-count-clause-none
returns-then-count-clause-none c = none_of_zeros 32 c.args.count

pub returns-clause-none : goal.returns-clause-none
returns-clause-none c =
    ap (λ words. bits_of words c.args.count) c.in_ok-words.ensures.items
    ∙ none_of_zeros 0 c.args.count
