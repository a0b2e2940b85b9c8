use Rattle.regex_lite_engine.proofs.Common.{◌-◌, length, ap, ◌∙◌, arith, bits_of}
use Rattle.regex_lite_engine.specs.Backtrack.PairMaps.{room_of, stamped}
use Rattle.regex_lite_engine.proofs.backtrack.BitLemmas.{none_of_zeros}
use Rattle.regex_lite_engine.proofs.backtrack.PairMapLemmas.{none_stamped}
use Rattle.regex_lite_engine.proofs.backtrack.visited.PairMap.restart.Goals as goal

pub returns-in-Few-clause-none : goal.returns-in-Few-clause-none
returns-in-Few-clause-none c =
    ap (λ words. bits_of words c.args.count) (c.fill.ensures.after (λ y same. same))
    ∙ none_of_zeros (length c.in-Few.words) c.args.count

pub returns-in-Few-clause-room : goal.returns-in-Few-clause-room
returns-in-Few-clause-room c =
    let words = ap room_of c.in-Few.is in omega (arith, words, c.fill.ensures.len)

pub returns-in-Many-clause-none : goal.returns-in-Many-clause-none
returns-in-Many-clause-none c =
    ap (λ words. bits_of words c.args.count) c.clear.ensures.items
    ∙ none_of_zeros 0 c.args.count

pub returns-in-Stamps-clause-none : goal.returns-in-Stamps-clause-none
returns-in-Stamps-clause-none c =
    let count = c.args.count in
    let generation = c.begin_generation.new.generation in
    let before = c.begin_generation.new.stamps.items in
    ap (λ stamps. stamped stamps generation count) c.fill_to.ensures.items
    ∙ none_stamped before (count - length before) generation count c.begin_generation.ensures.later
