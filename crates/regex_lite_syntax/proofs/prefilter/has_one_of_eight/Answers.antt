use Rattle.regex_lite_syntax.proofs.Common.{◌≡◌, false, length, slice_index, subst, arith, rules}
use Rattle.regex_lite_syntax.proofs.Common.{is_among}
use Rattle.regex_lite_syntax.proofs.prefilter.FillLemmas.{eight}
use Rattle.regex_lite_syntax.proofs.prefilter.has_one_of_eight.Goals as goal

pub returns : goal.returns
returns c = λ none k within.
    let len : length c.args.bytes ≡ 8 = search rules in
    let byte = slice_index c.args.block.now k in
    subst (λ bytes. is_among bytes byte ≡ false) (eight c.args.bytes len)
    (c.loop-k.invariant none k (omega (arith, within, c.loop-k-test.false)))
