use Rattle.regex_lite_engine.proofs.Common.{refl, position_at}
use Rattle.regex_lite_engine.proofs.pikevm.PassLemmas.{begun}
use Rattle.regex_lite_engine.proofs.pikevm.StopLemmas.{over_found, over_bounded, over_within}
use Rattle.regex_lite_engine.proofs.pikevm.run.run.Goals as goal

pub advance-requires : goal.advance-requires
advance-requires g c =
    let s = position_at c.args.haystack.now c.args.start in
    record {
      on = (
        s,
        s,
        c.at.ensures.here,
        c.requires.counts,
        begun _ _ _ s c.args.cache.now c.requires.fresh,
      );
      none = λ earliest. c.requires.fresh.none;
    }

pub returns-clause-found : goal.returns-clause-found
returns-clause-found g c =
    let s = position_at c.args.haystack.now c.args.start in
    over_found (rw (c.advance.ensures.all refl) at c.advance.ensures.stops s s c.at.ensures.here
    (begun _ _ _ s c.args.cache.now c.requires.fresh))

pub returns-clause-bounded : goal.returns-clause-bounded
returns-clause-bounded g c =
    let s = position_at c.args.haystack.now c.args.start in
    over_bounded (rw (c.advance.ensures.all refl) at c.advance.ensures.stops s s c.at.ensures.here
    (begun _ _ _ s c.args.cache.now c.requires.fresh))

pub returns-clause-own : goal.returns-clause-own
returns-clause-own g c = λ low len part.
    let s = position_at c.args.haystack.now c.args.start in
    over_within (rw (c.advance.ensures.all refl) at c.advance.ensures.stops s s c.at.ensures.here
    (begun _ _ _ s c.args.cache.now c.requires.fresh)) low len part
