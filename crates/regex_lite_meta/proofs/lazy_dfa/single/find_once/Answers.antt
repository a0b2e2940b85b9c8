use Rattle.regex_lite_meta.proofs.Common.{◌==◌, refl, sym, ◌∙◌, arith, best_of, position_at, not}
use Rattle.regex_lite_engine.proofs.pikevm.PassLemmas.{begun}
use Rattle.regex_lite_engine.proofs.pikevm.StopLemmas.{over_bounded, over_found, over_within}
use Rattle.regex_lite_meta.proofs.lazy_dfa.OnceLemmas.{found_kept, under_as}
use Rattle.regex_lite_meta.proofs.lazy_dfa.RunLemmas.{match_counted}
use Rattle.regex_lite_meta.proofs.lazy_dfa.single.find_once.Goals as goal

pub advance-soon-requires : goal.advance-soon-requires
advance-soon-requires g c =
    let s = position_at c.args.haystack.now c.args.start in
    record {
      on = (
        s,
        s,
        c.at-here.ensures.here,
        c.requires.counts,
        begun _ _ _ s c.args.cache.now c.requires.fresh,
      );
      none = λ _. c.requires.fresh.none;
    }

pub returns-in_default : goal.returns-in_default
returns-in_default g c =
    let s = position_at c.args.haystack.now c.args.start in
    let now = c.advance-soon.new.cache in
    let begun = begun _ _ _ s c.args.cache.now c.requires.fresh in
    let stops = c.in_default.ensures.stops s s c.at-here.ensures.here begun in
    let width =
    c.advance-soon.ensures.width ∙ c.requires.fresh.between.best_width ∙ c.requires.width in
    record {
      found = found_kept _ _ _ s (not (g.row.EARLIEST == 0)) now c.found.result width
          c.found.ensures (over_found stops);
      bounded = over_bounded stops;
      own = over_within stops;
      entered =
          match_counted (best_of now.best) c.found.result now.best.row now.walk.steps.entered 1
          c.found.ensures c.advance-soon.ensures.between.match_entered (omega arith);
      between = c.advance-soon.ensures.between;
      width = sym c.advance-soon.ensures.between.best_width ∙ width;
    }

pub find_by_new_dfa-requires : goal.find_by_new_dfa-requires
find_by_new_dfa-requires g c =
    let s = position_at c.args.haystack.now c.args.start in
    let begun = begun _ _ _ s c.args.cache.now c.requires.fresh in
    let stops = c.in-Some.ensures.stops s s c.at-here.ensures.here begun in
    record {
      all = c.requires.all;
      on = (
        s,
        stops.q,
        stops.why.0,
        rw (c.requires.table, c.requires.entries) c.requires.counts,
        rw (c.requires.table, c.requires.entries) stops.on,
      );
      none = stops.why.1;
      width =
          sym c.advance-soon.ensures.between.best_width
          ∙ (c.advance-soon.ensures.width
          ∙ (c.requires.fresh.between.best_width ∙ c.requires.width));
    }

pub returns-in-Ok-clause-found : goal.returns-in-Ok-clause-found
returns-in-Ok-clause-found g c =
    let s = position_at c.args.haystack.now c.args.start in
    let begun = begun _ _ _ s c.args.cache.now c.requires.fresh in
    let stops = c.in-Some.ensures.stops s s c.at-here.ensures.here begun in
    rw (c.requires.table, c.requires.entries)
    at (c.in-Ok.ensures.found s stops.q stops.why.0
    (rw (c.requires.table, c.requires.entries) stops.on))

pub returns-in-Ok-clause-bounded : goal.returns-in-Ok-clause-bounded
returns-in-Ok-clause-bounded g c =
    let s = position_at c.args.haystack.now c.args.start in
    let begun = begun _ _ _ s c.args.cache.now c.requires.fresh in
    let stops = c.in-Some.ensures.stops s s c.at-here.ensures.here begun in
    rw (c.requires.table, c.requires.entries)
    at (c.in-Ok.ensures.bounded s stops.q stops.why.0
    (rw (c.requires.table, c.requires.entries) stops.on))

pub returns-in-Ok-clause-own : goal.returns-in-Ok-clause-own
returns-in-Ok-clause-own g c =
    let s = position_at c.args.haystack.now c.args.start in
    let begun = begun _ _ _ s c.args.cache.now c.requires.fresh in
    let stops = c.in-Some.ensures.stops s s c.at-here.ensures.here begun in
    rw (c.requires.table, c.requires.entries)
    at (c.in-Ok.ensures.own s stops.q stops.why.0
    (rw (c.requires.table, c.requires.entries) stops.on))

pub advance-requires : goal.advance-requires
advance-requires g c =
    let s = position_at c.args.haystack.now c.args.start in
    let begun = begun _ _ _ s c.args.cache.now c.requires.fresh in
    let stops = c.in-Some.ensures.stops s s c.at-here.ensures.here begun in
    let on = c.in-Err.ensures.stands s stops.q stops.why.0
    (rw (c.requires.table, c.requires.entries) stops.on) in
    record {
      on = (
        s,
        on.0,
        on.1,
        rw (c.advance-soon.ensures.table, c.advance-soon.ensures.entries) c.requires.counts,
        under_as {p = on.0} (sym c.advance-soon.ensures.table) (sym c.advance-soon.ensures.entries)
            (under_as {p = on.0} c.requires.table c.requires.entries on.2),
      );
      none = c.in-Err.ensures.none;
    }

pub returns-in-Err-clause-found : goal.returns-in-Err-clause-found
returns-in-Err-clause-found g c =
    let s = position_at c.args.haystack.now c.args.start in
    let begun = begun _ _ _ s c.args.cache.now c.requires.fresh in
    let stops = c.in-Some.ensures.stops s s c.at-here.ensures.here begun in
    let on = c.in-Err.ensures.stands s stops.q stops.why.0
    (rw (c.requires.table, c.requires.entries) stops.on) in
    found_kept _ _ _ s (not (g.row.EARLIEST == 0)) c.advance.new.cache
    c.found-in-Err.result
    (c.advance.ensures.width ∙ on.2.ready.best_width ∙ c.in-Err.ensures.width)
    c.found-in-Err.ensures
    (rw (c.advance-soon.ensures.table, c.advance-soon.ensures.entries)
    at (over_found (rw (c.advance.ensures.all refl)
    at (c.advance.ensures.stops s on.0 on.1
    (under_as (sym c.advance-soon.ensures.table) (sym c.advance-soon.ensures.entries)
    (under_as c.requires.table c.requires.entries on.2))))))

pub returns-in-Err-clause-bounded : goal.returns-in-Err-clause-bounded
returns-in-Err-clause-bounded g c =
    let s = position_at c.args.haystack.now c.args.start in
    let begun = begun _ _ _ s c.args.cache.now c.requires.fresh in
    let stops = c.in-Some.ensures.stops s s c.at-here.ensures.here begun in
    let on = c.in-Err.ensures.stands s stops.q stops.why.0
    (rw (c.requires.table, c.requires.entries) stops.on) in
    rw (c.advance-soon.ensures.table, c.advance-soon.ensures.entries)
    at (over_bounded (rw (c.advance.ensures.all refl)
    at (c.advance.ensures.stops s on.0 on.1
    (under_as (sym c.advance-soon.ensures.table) (sym c.advance-soon.ensures.entries)
    (under_as c.requires.table c.requires.entries on.2)))))

pub returns-in-Err-clause-own : goal.returns-in-Err-clause-own
returns-in-Err-clause-own g c =
    let s = position_at c.args.haystack.now c.args.start in
    let begun = begun _ _ _ s c.args.cache.now c.requires.fresh in
    let stops = c.in-Some.ensures.stops s s c.at-here.ensures.here begun in
    let on = c.in-Err.ensures.stands s stops.q stops.why.0
    (rw (c.requires.table, c.requires.entries) stops.on) in
    rw (c.advance-soon.ensures.table, c.advance-soon.ensures.entries)
    at (over_within (rw (c.advance.ensures.all refl)
    at (c.advance.ensures.stops s on.0 on.1
    (under_as (sym c.advance-soon.ensures.table) (sym c.advance-soon.ensures.entries)
    (under_as c.requires.table c.requires.entries on.2)))))
