use Rattle.regex_lite_syntax.proofs.Common.{take, sym, subst, arith, IsLetter}
use Rattle.std.proofs.Common.{get_or-take, length-take}
use Rattle.regex_lite_syntax.proofs.prefilter.words.BlockLemmas.{none_before_place}
use Rattle.regex_lite_syntax.proofs.prefilter.words.pair.short_block.first_of_both.Goals as goal

pub returns : goal.returns
returns c =
    let firsts = c.args.firsts.now in
    let seconds = c.args.seconds.now in
    let (few, none) = none_before_place (take 16 firsts) (take 16 seconds) c.args.first
    c.args.second c.first_of.result (omega (arith, length-take 16 firsts, c.requires.firsts))
    (omega (arith, length-take 16 seconds, c.requires.seconds)) c.first_of.ensures in
    record {
      few = few;
      none = λ k below is_first is_second.
          none k below
          (subst (IsLetter c.args.first) (sym (get_or-take 16 firsts k 0 (omega (arith, few, below))))
          is_first)
          (subst (IsLetter c.args.second)
          (sym (get_or-take 16 seconds k 0 (omega (arith, few, below)))) is_second);
    }
