use Rattle.regex_lite_meta.proofs.Common.{◌≡◌, true, chars, sym, ◌∙◌, subst, arith, rules}
use Rattle.regex_lite_meta.proofs.lazy_dfa.RunLemmas.{at_later}
use Rattle.regex_lite_meta.specs.LazyDfa.Scanning.{GoesOn}
use Rattle.regex_lite_meta.proofs.lazy_dfa.OnwardLemmas.{stays_there, then_on}
use Rattle.regex_lite_engine.proofs.search.here.HereLemmas.{at_most}
use Rattle.regex_lite_meta.proofs.lazy_dfa.automaton.LazyDfa.run_with_skips.Goals as goal

pub prefilter_skips-init : goal.prefilter_skips-init
prefilter_skips-init g c = record { none = c.requires.none; on = stays_there c.args.at.now }

pub skip_by_prefilter-requires : goal.skip_by_prefilter-requires
skip_by_prefilter-requires g c =
    let from = c.requires.scanning in
    let v = c.prefilter_skips.invariant.on from.0 from.1 from.2 in
    record { scanning = (from.0, v.0, v.2) }

pub returns-then-not-skip_by_prefilter-clause-on : goal.returns-then-not-skip_by_prefilter-clause-on
returns-then-not-skip_by_prefilter-clause-on g c = λ _.
    subst (GoesOn (g.P.Patterns.table c.args.patterns.now) (g.P.Patterns.entries
    c.args.patterns.now) (chars c.args.haystack.now) c.args.self.now c.args.at.now)
    (sym (c.skip_by_prefilter.ensures.same (search rules))) c.prefilter_skips.invariant.on

pub run-requires-clause-scanning : goal.run-requires-clause-scanning
run-requires-clause-scanning g c =
    let from = c.requires.scanning in
    let on = then_on c.prefilter_skips.invariant.on (c.skip_by_prefilter.ensures.on (search rules))
    from.0 from.1 from.2 in
    (from.0, on.0, on.2)

pub returns-then-run-clause-over : goal.returns-then-run-clause-over
returns-then-run-clause-over g c = λ _ low p from.
    let on = then_on c.prefilter_skips.invariant.on (c.skip_by_prefilter.ensures.on (search rules))
    low p from in
    c.run.ensures.over c.if-run.true low on.0 on.2

pub prefilter_skips-smaller : goal.prefilter_skips-smaller
prefilter_skips-smaller g c =
    let bs = c.args.haystack.now in
    let from = c.requires.scanning in
    let v = c.prefilter_skips.invariant.on from.0 from.1 from.2 in
    let prefilter_skips : c.skip_by_prefilter.result ≡ true = search rules in
    let on = c.skip_by_prefilter.ensures.on prefilter_skips from.0 v.0 v.2 in
    let r = c.run.ensures.on c.if-run.false from.0 on.0 on.2 in
    let later = c.skip_by_prefilter.ensures.later prefilter_skips in
    let le = at_later (chars bs) on.0 r.0 on.2.here r.2.here on.2.is r.2.is r.1 in
    let inside = at_most bs r.0 r.2.here c.utf8.haystack r.2.is in
    let from = on.2.there in
    let to = r.2.there in
    omega (arith, le, later, inside, from, to)

pub prefilter_skips-preserved : goal.prefilter_skips-preserved
prefilter_skips-preserved g c = record {
  none = λ earliest. c.run.ensures.none earliest c.if-run.false;
  on =
      then_on c.prefilter_skips.invariant.on
      (then_on (c.skip_by_prefilter.ensures.on (search rules)) (c.run.ensures.on c.if-run.false));
}

pub run-requires-clause-none : goal.run-requires-clause-none
run-requires-clause-none g c = λ earliest. c.skip_by_prefilter.ensures.none
    ∙ c.prefilter_skips.invariant.none earliest

pub
    returns-then-not-skip_by_prefilter-clause-none :
    goal.returns-then-not-skip_by_prefilter-clause-none
returns-then-not-skip_by_prefilter-clause-none g c = λ earliest _.
    c.skip_by_prefilter.ensures.none ∙ c.prefilter_skips.invariant.none earliest
