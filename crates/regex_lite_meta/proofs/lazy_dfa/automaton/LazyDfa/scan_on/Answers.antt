use Rattle.regex_lite_meta.proofs.Common.{◌≡◌, ◌==◌, true, chars, ap, ◌∙◌, rules, DfaPosition, not}
use Rattle.regex_lite_meta.proofs.Common.{arith, None}
use Rattle.regex_lite_meta.proofs.lazy_dfa.HereLemmas.{edge_there, is_there}
use Rattle.regex_lite_meta.proofs.lazy_dfa.RunLemmas.{at_later}
use Rattle.regex_lite_engine.proofs.pikevm.ShortestLemmas.{not_true}
use Rattle.regex_lite_meta.specs.LazyDfa.Scanning.{GoesOn}
use Rattle.regex_lite_meta.proofs.lazy_dfa.OnwardLemmas.{state_there, stays_there, then_on}
use Rattle.regex_lite_meta.proofs.lazy_dfa.OnwardLemmas.{then_stepped}
use Rattle.regex_lite_meta.proofs.lazy_dfa.ScanLemmas.{leads_on, scan_found}
use Rattle.regex_lite_engine.proofs.pikevm.EndLemmas.{some_after}
use Rattle.regex_lite_engine.proofs.search.here.HereLemmas.{less_left}
use Rattle.regex_lite_meta.proofs.lazy_dfa.automaton.LazyDfa.scan_on.Given as given
use Rattle.regex_lite_meta.proofs.lazy_dfa.automaton.LazyDfa.scan_on.Goals as goal
use Rattle.regex_lite_meta.proofs.lazy_dfa.automaton.LazyDfa.scan_on.Goals.{After-go_on, After-skip}

pub positions-init : goal.positions-init
positions-init g c = record { none = c.requires.none; on = stays_there c.args.at.now }

pub run_with_skips-requires-clause-scanning : goal.run_with_skips-requires-clause-scanning
run_with_skips-requires-clause-scanning g c =
    let from = c.requires.scanning in
    let v = c.positions.invariant.on from.0 from.1 from.2 in (from.0, v.0, v.2)

pub run_with_skips-requires-clause-none : goal.run_with_skips-requires-clause-none
run_with_skips-requires-clause-none g c = c.positions.invariant.none

pub returns-then-run_with_skips-clause-over : goal.returns-then-run_with_skips-clause-over
returns-then-run_with_skips-clause-over g c = λ _ low p from.
    let v = c.positions.invariant.on low p from in
    c.run_with_skips.ensures.over c.if-run_with_skips.true low v.0 v.2

pub skip-requires : goal.skip-requires
skip-requires g c =
    let from = c.requires.scanning in
    let r = then_on c.positions.invariant.on (c.run_with_skips.ensures.on c.if-run_with_skips.false)
    from.0 from.1 from.2 in
    record { scanning = (from.0, r.0, r.2) }

-- by transitions, and over positions at which no match can begin
past : (g : given.Over) (c : After-skip g) →
    GoesOn (g.P.Patterns.table c.args.patterns.now) (g.P.Patterns.entries c.args.patterns.now)
    (chars c.args.haystack.now) c.args.self.now c.positions.at c.skip.new.at
past g c = then_on (c.run_with_skips.ensures.on c.if-run_with_skips.false) c.skip.ensures.on

pub returns-then-not-skip-clause-on : goal.returns-then-not-skip-clause-on
returns-then-not-skip-clause-on g c = λ _.
    then_on c.positions.invariant.on
    (past g (goal.at.returns-then-not-skip-clause-on g c).After-skip)

pub returns-then-not-skip-clause-none : goal.returns-then-not-skip-clause-none
returns-then-not-skip-clause-none g c = λ earliest _.
    c.skip.ensures.none (c.run_with_skips.ensures.none earliest c.if-run_with_skips.false)

-- the characters beside the offset are read
pub at-here-requires : goal.at-here-requires
at-here-requires g c =
    let from = c.requires.scanning in
    let on = then_on c.positions.invariant.on
    (past g (goal.at.at-here-requires g c).After-skip) from.0 from.1 from.2 in
    edge_there c.args.haystack.now c.utf8.haystack on.2

pub step-requires-clause-state : goal.step-requires-clause-state
step-requires-clause-state g c =
    state_there
    (then_on c.positions.invariant.on
    (past g (goal.at.step-requires-clause-state g c).After-skip)) c.requires.scanning

pub step-requires-clause-none : goal.step-requires-clause-none
step-requires-clause-none g c = λ earliest.
    c.skip.ensures.none (c.run_with_skips.ensures.none earliest c.if-run_with_skips.false)

pub returns-in_default-clause-on : goal.returns-in_default-clause-on
returns-in_default-clause-on g c = λ _.
    then_on c.positions.invariant.on
    (past g (goal.at.returns-in_default-clause-on g c).After-skip)

pub returns-in_default-clause-none : goal.returns-in_default-clause-none
returns-in_default-clause-none g c = λ earliest _.
    c.skip.ensures.none (c.run_with_skips.ensures.none earliest c.if-run_with_skips.false)

pub is_over-requires : goal.is_over-requires
is_over-requires g c = c.in-Some.ensures.state

pub returns-then-is_over-clause-over : goal.returns-then-is_over-clause-over
returns-then-is_over-clause-over g c = λ _ low p from.
    let on = then_on c.positions.invariant.on
    (past g (goal.at.returns-then-is_over-clause-over g c).After-skip) low p from in
    let is = is_there c.args.haystack.now c.utf8.haystack on.2 c.at-here.result
    c.at-here.ensures.here in
    scan_found (g.P.Patterns.table c.args.patterns.now) (g.P.Patterns.entries c.args.patterns.now)
    (chars c.args.haystack.now) low on.0 c.args.self.now c.skip.new.at c.in-Some.to
    c.at-here.result is (not (g.row.EARLIEST == 0)) c.in-Some.best on.2
    (λ earliest. c.skip.ensures.none
    (c.run_with_skips.ensures.none earliest c.if-run_with_skips.false))
    (c.in-Some.ensures.led (chars c.args.haystack.now) low on.0 on.2 is)
    (λ state is preferred. c.if-is_over.ensures.over state is (search rules) preferred)
    (c.is_over.ensures.earliest (search rules))

pub go_on-requires-clause-here : goal.go_on-requires-clause-here
go_on-requires-clause-here g c =
    let from = c.requires.scanning in
    let on = then_on c.positions.invariant.on
    (past g (goal.at.go_on-requires-clause-here g c).After-skip) from.0 from.1 from.2 in (
      on.0,
      is_there c.args.haystack.now c.utf8.haystack on.2 c.at-here.result c.at-here.ensures.here,
      some_after c.at-here.result.after c.is_over.result c.if-is_over.false
          c.is_over.ensures.at_end,
    )

pub go_on-requires-clause-state : goal.go_on-requires-clause-state
go_on-requires-clause-state g c = c.in-Some.ensures.state

-- there is no match yet if the least end is asked for
none_yet : (g : given.Over) (c : After-go_on g) → not (g.row.EARLIEST == 0) ≡ true
    → c.in-Some.best ≡ None
none_yet g c = λ earliest.
    c.is_over.ensures.none_yet earliest (not_true c.is_over.result c.if-is_over.false)

-- by the transition after that
stepped : (g : given.Over) (c : After-go_on g) →
    GoesOn (g.P.Patterns.table c.args.patterns.now) (g.P.Patterns.entries c.args.patterns.now)
    (chars c.args.haystack.now) c.args.self.now c.positions.at c.go_on.new.at
stepped g c =
    then_stepped (then_on (c.run_with_skips.ensures.on c.if-run_with_skips.false) c.skip.ensures.on)
    (λ low p scanning.
    leads_on (g.P.Patterns.table c.args.patterns.now) (g.P.Patterns.entries
    c.args.patterns.now) (chars c.args.haystack.now) low p c.args.self.now c.skip.new.at
    c.in-Some.to (not (g.row.EARLIEST == 0)) c.in-Some.best (none_yet g c)
    (c.in-Some.ensures.led (chars c.args.haystack.now) low p scanning
    (is_there c.args.haystack.now c.utf8.haystack scanning c.at-here.result
    c.at-here.ensures.here)))
    (λ state at. c.is_over.ensures.none state at (search rules))
    (λ low p scanning.
    c.go_on.ensures.here p
    (is_there c.args.haystack.now c.utf8.haystack scanning c.at-here.result
    c.at-here.ensures.here))
    c.go_on.ensures.same c.go_on.ensures.first

pub run-requires-clause-scanning : goal.run-requires-clause-scanning
run-requires-clause-scanning g c =
    let from = c.requires.scanning in
    let r = then_on c.positions.invariant.on
    (stepped g (goal.at.run-requires-clause-scanning g c).After-go_on) from.0 from.1 from.2 in
    (from.0, r.0, r.2)

pub run-requires-clause-none : goal.run-requires-clause-none
run-requires-clause-none g c = λ earliest.
    ap (λ (z : DfaPosition). z.best) c.go_on.ensures.same
    ∙ none_yet g (goal.at.run-requires-clause-none g c).After-go_on earliest

pub returns-then-run-clause-over : goal.returns-then-run-clause-over
returns-then-run-clause-over g c = λ _ low p from.
    let r = then_on c.positions.invariant.on
    (stepped g (goal.at.returns-then-run-clause-over g c).After-go_on) low p from in
    c.run.ensures.over c.if-run.true low r.0 r.2

pub positions-smaller : goal.positions-smaller
positions-smaller g c =
    let from = c.requires.scanning in
    let haystack = c.args.haystack.now in
    let v = c.positions.invariant.on from.0 from.1 from.2 in
    let on = then_on (c.run_with_skips.ensures.on c.if-run_with_skips.false) c.skip.ensures.on
    from.0 v.0 v.2 in
    let next = c.go_on.ensures.here on.0 (is_there haystack c.utf8.haystack on.2 c.at-here.result
    c.at-here.ensures.here) in
    let less = less_left haystack v.0 on.0 v.2.here next.0 c.utf8.haystack v.2.is next.1 on.1 in
    let transition = stepped g (goal.at.positions-smaller g c).After-go_on from.0 v.0 v.2 in
    let r = c.run.ensures.on c.if-run.false from.0 transition.0 transition.2 in
    let le = at_later (chars haystack) transition.0 r.0 transition.2.here r.2.here transition.2.is
    r.2.is r.1 in
    let begins = v.2.there in
    let ends = next.2 in
    let transitions = transition.2.there in
    let last = r.2.there in
    omega (arith, less, le, begins, ends, transitions, last)

pub positions-preserved : goal.positions-preserved
positions-preserved g c = record {
  none = λ earliest. c.run.ensures.none earliest c.if-run.false;
  on =
      then_on c.positions.invariant.on
      (then_on (stepped g (goal.at.positions-preserved g c).After-go_on)
      (c.run.ensures.on c.if-run.false));
}
