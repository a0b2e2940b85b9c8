use Rattle.regex_lite_syntax.proofs.Common.{◌+◌, refl, arith}
use Rattle.regex_lite_syntax.proofs.parse.bracket.ClassOpeningLemmas.{dashes_push, dashes_stop}
use Rattle.regex_lite_syntax.proofs.parse.bracket.ClassOpeningLemmas.{some_dashes}
use Rattle.regex_lite_syntax.proofs.parse.bracket.opening.take_dashes.Goals as goal

pub loop-found-preserved : goal.loop-found-preserved
loop-found-preserved c =
    let n = c.loop-found.invariant.dashes in
    record {
      inside = (omega arith, c.skip_gap-end.ensures.inside.1);
      past_gap = c.skip_gap-end.ensures.gap.1;
      dashes = n + 1;
      some = some_dashes n;
      goes = λ more rest d. dashes_push _ n more _ _ _ _ rest c.loop-found.invariant.goes
          (c.loop-found-test.ensures.there refl).1 c.skip_gap-end.ensures.gap d;
    }

pub returns-clause-takes : goal.returns-clause-takes
returns-clause-takes c =
    let n = c.loop-found.invariant.dashes in (
      n,
      dashes_stop _ n _ _ c.loop-found.invariant.goes (c.loop-found-test.ensures.absent refl),
      c.loop-found.invariant.some,
    )
