use Rattle.std.proofs.Common.{◌/◌}
use Rattle.regex_lite_engine.proofs.Common.{ap, ◌∙◌, slice_set, bits_of}
use Rattle.regex_lite_engine.proofs.backtrack.BitLemmas.{new_by_shift, set_by_mask}
use Rattle.regex_lite_engine.proofs.backtrack.visited.set_bit.Goals as goal

pub returns-clause-fresh : goal.returns-clause-fresh
returns-clause-fresh c count lt =
    let clear = new_by_shift c.args.words.now count c.args.k lt in
    let found = c.set_bit.ensures.fresh in (
      (λ new. clear.0 (found.0 new)),
      (λ none. found.1 (clear.1 none)),
    )

pub returns-clause-set : goal.returns-clause-set
returns-clause-set c count lt =
    ap (λ word. bits_of (slice_set c.args.words.now (c.args.k / 64) word) count)
    c.set_bit.ensures.set
    ∙ set_by_mask c.args.words.now count c.args.k c.requires lt
