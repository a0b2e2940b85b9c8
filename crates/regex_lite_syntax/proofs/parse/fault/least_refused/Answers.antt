use Rattle.regex_lite_syntax.proofs.Common.{subst, arith, GoesOnFrom}
use Rattle.regex_lite_syntax.proofs.CharacterLemmas.{first_are}
use Rattle.regex_lite_syntax.proofs.parse.fault.least_refused.Goals as goal

pub begins_none-requires : goal.begins_none-requires
begins_none-requires c = first_are _ _ c.requires.characters

pub returns-clause-end : goal.returns-clause-end
returns-clause-end c =
    let inside = c.loop-end.invariant.inside in
    record {
      past = omega (arith, inside);
      inside = inside.2;
      none = c.loop-end.invariant.none;
      before = subst (GoesOnFrom c.args.flags c.args.chars.now c.args.low)
          (omega (arith, inside, c.loop-end-test.false)) c.loop-end.invariant.goes_on;
    }
