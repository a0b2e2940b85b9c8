use Rattle.regex_lite_meta.proofs.Common.{◌≡◌, ◌==◌, ℕ, not, chars, ap, ◌∙◌, arith, Some, subst}
use Rattle.regex_lite_meta.proofs.Common.{refl, sym, rules, true, None, slice_get, best_reported}
use Rattle.regex_lite_meta.proofs.Common.{DfaPosition, NextState}
use Rattle.regex_lite_meta.specs.LazyDfa.Automaton.{State}
use Rattle.regex_lite_meta.specs.LazyDfa.Cursors.{EndsScan, IsTransition, Stays, Takes}
use Rattle.regex_lite_meta.specs.LazyDfa.NextStates.{IsRowOf}
use Rattle.regex_lite_meta.proofs.lazy_dfa.ScanLemmas.{preferred}
use Rattle.regex_lite_meta.proofs.lazy_dfa.TakenLemmas.{takes_after}
use Rattle.regex_lite_meta.proofs.lazy_dfa.OnwardLemmas.{completes_there, ends_there, from_cursor}
use Rattle.regex_lite_meta.proofs.lazy_dfa.OnwardLemmas.{GoesToCursor, kept_at_cursor, next_cursor}
use Rattle.regex_lite_meta.proofs.lazy_dfa.OnwardLemmas.{none_settled, passed_to_cursor}
use Rattle.regex_lite_meta.proofs.lazy_dfa.OnwardLemmas.{row_at_cursor, scans_at_cursor}
use Rattle.regex_lite_meta.proofs.lazy_dfa.OnwardLemmas.{cursor_boundary, to_cursor}
use Rattle.regex_lite_meta.proofs.lazy_dfa.OnwardLemmas.{transition_kind, transition_later}
use Rattle.regex_lite_meta.proofs.lazy_dfa.OnwardLemmas.{transition_within}
use Rattle.regex_lite_meta.proofs.lazy_dfa.automaton.LazyDfa.run.Given as given
use Rattle.regex_lite_meta.proofs.lazy_dfa.automaton.LazyDfa.run.Goals as goal
use Rattle.regex_lite_meta.proofs.lazy_dfa.automaton.LazyDfa.run.Goals.{
  After-pass_non_special-ascii,
  After-settle_at-2,
  In-None,
  In-Some-cached,
  in-Some+in-None+in-Some-cached+else-is_last+in-None-take_by_state,
  in-Some+in-None+in_default-cached,
  in_default,
}

pub transitions-init : goal.transitions-init
transitions-init g c = record {
  near = c.none-near.ensures c.args.self.now.intervals.boundaries;
  none = c.requires.none;
  on = to_cursor c.args.at.now c.cursor_of-cursor.ensures.at c.cursor_of-cursor.ensures.row;
}

pub
    pass_non_special-ascii-requires-clause-scanning :
    goal.pass_non_special-ascii-requires-clause-scanning
pass_non_special-ascii-requires-clause-scanning g c =
    scans_at_cursor c.transitions.invariant.on c.requires.scanning

-- some transitions that are not special are passed
passed : (g : given.Over) (c : After-pass_non_special-ascii g)
    → GoesToCursor (g.P.Patterns.table c.args.patterns.now)
    (g.P.Patterns.entries c.args.patterns.now) (chars c.args.haystack.now) c.args.self.now
    c.args.at.now c.pass_non_special-ascii.result.0 c.transitions.at
passed g c = passed_to_cursor c.transitions.invariant.on c.pass_non_special-ascii.ensures.on

pub settle_at-requires : goal.settle_at-requires
settle_at-requires g c =
    let own = (goal.at.settle_at-requires g c).After-pass_non_special-ascii in
    record { row = row_at_cursor (passed g own) c.requires.scanning }

-- at the end of the haystack
pub returns-then-cursor-haystack-clause-on : goal.returns-then-cursor-haystack-clause-on
returns-then-cursor-haystack-clause-on g c = λ _.
    let own = (goal.at.returns-then-cursor-haystack-clause-on g c).After-pass_non_special-ascii in
    from_cursor (passed g own) c.settle_at.new.at c.settle_at.ensures.same

pub returns-then-cursor-haystack-clause-none : goal.returns-then-cursor-haystack-clause-none
returns-then-cursor-haystack-clause-none g c = λ earliest _.
    let own = (goal.at.returns-then-cursor-haystack-clause-none g c).After-pass_non_special-ascii in
    none_settled c.transitions.at c.settle_at.new.at c.settle_at.ensures.same
    (row_at_cursor (passed g own) c.requires.scanning) (c.transitions.invariant.none earliest)

-- the row of the state there
row : (g : given.Over) (c : After-pass_non_special-ascii g) →
    (x : ℕ) × IsRowOf c.args.self.now c.pass_non_special-ascii.result.0.row x
row g c = row_at_cursor (passed g c) c.requires.scanning

pub transition-requires-clause-boundary : goal.transition-requires-clause-boundary
transition-requires-clause-boundary g c =
    let own = (goal.at.transition-requires-clause-boundary g c).After-pass_non_special-ascii in
    cursor_boundary c.args.haystack.now c.utf8.haystack (omega arith) (passed g own)
    c.requires.scanning

pub transition-requires-clause-row : goal.transition-requires-clause-row
transition-requires-clause-row g c = row g
    (goal.at.transition-requires-clause-row g c).After-pass_non_special-ascii

pub transitions-smaller-in-Some-Some : goal.transitions-smaller-in-Some-Some
transitions-smaller-in-Some-Some g c =
    let own = goal.at.transitions-smaller-in-Some-Some g c in
    let there = row_at_cursor (passed g own.After-pass_non_special-ascii) c.requires.scanning in
    let transition = c.in-Some.ensures.transition c.in-Some-Some.ensures.known there.0 there.1 in
    let more = transition_later transition in
    let taken = subst (λ o. Takes c.pass_non_special-ascii.result.0.at c.in-Some.next_state.row
    c.in-Some.end transition.to c.transitions.at c.take_by_kind.new.at (Some o))
    c.in-Some-Some.field-0-is (c.in-Some-Some.ensures.taken transition.to transition.kind) in
    let ends = taken.ends in
    let is = c.in-Some-Some.on-is in
    let inside = c.if-cursor-haystack.false in
    let later = c.pass_non_special-ascii.ensures.later in
    search (more, ends, is, inside, later, rules)

pub transitions-preserved-in-Some-Some : goal.transitions-preserved-in-Some-Some
transitions-preserved-in-Some-Some g c =
    let own = goal.at.transitions-preserved-in-Some-Some g c in
    let transition = c.in-Some.ensures.transition c.in-Some-Some.ensures.known in
    record {
      near = c.transition.ensures.near;
      none = λ earliest.
          c.take_by_kind.ensures.earliest earliest ∙ c.transitions.invariant.none earliest;
      on =
          subst (λ on. GoesToCursor (g.P.Patterns.table c.args.patterns.now)
          (g.P.Patterns.entries c.args.patterns.now) (chars c.args.haystack.now) c.args.self.now
          c.args.at.now on c.take_by_kind.new.at) (sym c.in-Some-Some.on-is)
          (next_cursor c.args.haystack.now c.utf8.haystack (omega arith)
          (passed g own.After-pass_non_special-ascii) transition c.in-Some-Some.on
          c.take_by_kind.new.at (λ state at.
          let there = row_at_cursor (passed g own.After-pass_non_special-ascii)
          c.requires.scanning in
          subst (λ o. Takes c.pass_non_special-ascii.result.0.at c.in-Some.next_state.row
          c.in-Some.end state c.transitions.at c.take_by_kind.new.at (Some o))
          c.in-Some-Some.field-0-is
          (c.in-Some-Some.ensures.taken state
          (transition_kind (transition there.0 there.1) state at))));
    }

pub returns-in-Some-None-clause-over : goal.returns-in-Some-None-clause-over
returns-in-Some-None-clause-over g c = λ _ low p from.
    let own = goal.at.returns-in-Some-None-clause-over g c in
    let transition = c.in-Some.ensures.transition c.in-Some-None.ensures.known in
    let there = row_at_cursor (passed g own.After-pass_non_special-ascii) c.requires.scanning in
    let to = transition there.0 there.1 in
    let ends : (state : State) → slice_get c.args.self.now.states c.in-Some.next_state.state
    ≡ Some state
    → EndsScan c.pass_non_special-ascii.result.0.at state c.transitions.at c.take_by_kind.new.at =
    λ state at.
    subst (λ o. Takes c.pass_non_special-ascii.result.0.at c.in-Some.next_state.row
    c.in-Some.end state c.transitions.at c.take_by_kind.new.at (Some o))
    c.in-Some-None.field-0-is (c.in-Some-None.ensures.taken state (transition_kind to state at)) in
    preferred (g.P.Patterns.table c.args.patterns.now) (chars c.args.haystack.now)
    (g.P.Patterns.entries c.args.patterns.now) low _ (not (g.row.EARLIEST == 0))
    (λ earliest. (ends to.to to.is_to).some (ap best_reported
    (c.take_by_kind.ensures.earliest earliest ∙ c.transitions.invariant.none earliest)))
    (ends_there c.args.haystack.now c.utf8.haystack (omega arith)
    (passed g own.After-pass_non_special-ascii) transition c.take_by_kind.new.at ends low p from)

-- the transition isn't taken by its kind
there : (g : given.Over) (c : In-None g)
    → GoesToCursor (g.P.Patterns.table c.args.patterns.now)
    (g.P.Patterns.entries c.args.patterns.now) (chars c.args.haystack.now) c.args.self.now
    c.args.at.now c.pass_non_special-ascii.result.0 c.take_by_kind.new.at
there g c =
    kept_at_cursor (passed_to_cursor c.transitions.invariant.on c.pass_non_special-ascii.ensures.on)
    (c.in-None.ensures.stays refl)

none : (g : given.Over) (c : In-None g) → not (g.row.EARLIEST == 0) ≡ true
    → c.take_by_kind.new.at.best ≡ None
none g c earliest =
    c.take_by_kind.ensures.earliest earliest ∙ c.transitions.invariant.none earliest

-- where it leads, since it is cached
led : (g : given.Over) (c : In-Some-cached g) → (x : ℕ)
    → IsRowOf c.args.self.now c.pass_non_special-ascii.result.0.row x
    → IsTransition (g.P.Patterns.table c.args.patterns.now)
    (g.P.Patterns.entries c.args.patterns.now) c.args.self.now c.args.haystack.now
    c.pass_non_special-ascii.result.0.at x c.in-Some-cached.known c.in-Some.end
led g c x is =
    let own = c.in-Some-cached.ensures in
    subst (λ next_state. IsTransition (g.P.Patterns.table c.args.patterns.now)
    (g.P.Patterns.entries c.args.patterns.now) c.args.self.now c.args.haystack.now
    c.pass_non_special-ascii.result.0.at x next_state c.in-Some.end) (sym own.0)
    (c.in-Some.ensures.transition own.1 x is)

pub is_last-requires-clause-to : goal.is_last-requires-clause-to
is_last-requires-clause-to g c =
    let own = goal.at.is_last-requires-clause-to g c in
    let is = row g own.After-pass_non_special-ascii in
    transition_within (led g own.In-Some-cached is.0 is.1)

pub is_last-requires-clause-kind : goal.is_last-requires-clause-kind
is_last-requires-clause-kind g c =
    let own = goal.at.is_last-requires-clause-kind g c in
    let is = row g own.After-pass_non_special-ascii in
    transition_kind (led g own.In-Some-cached is.0 is.1)

-- a transition completes a match where the least end is asked for
pub returns-then-is_last-clause-over : goal.returns-then-is_last-clause-over
returns-then-is_last-clause-over g c = λ _ low p from.
    let own = goal.at.returns-then-is_last-clause-over g c in
    let is = row g own.After-pass_non_special-ascii in
    let transition = led g own.In-Some-cached is.0 is.1 in
    let match_flag = c.is_last.ensures.match_flag transition.to transition.is_to
    c.if-is_last.true in
    completes_there c.args.haystack.now c.utf8.haystack (omega arith) (there g own.In-None)
    (led g own.In-Some-cached) match_flag.0 (none g own.In-None match_flag.0)
    (λ state at. (c.is_last.ensures.match_flag state at c.if-is_last.true).1) _ c.complete.new.self
    c.complete.ensures low p from

pub take_by_state-requires : goal.take_by_state-requires
take_by_state-requires g c =
    let own = goal.at.take_by_state-requires g c in
    let is = row g own.After-pass_non_special-ascii in
    record { to = transition_within (led g own.In-Some-cached is.0 is.1) }

pub transitions-smaller : goal.transitions-smaller
transitions-smaller g c =
    let own = goal.at.transitions-smaller g c in
    let there = row g own.After-pass_non_special-ascii in
    let transition = led g own.In-Some-cached there.0 there.1 in
    let more = transition_later transition in
    let taken = subst (λ o. Takes c.pass_non_special-ascii.result.0.at c.in-Some-cached.known.row
    c.in-Some.end transition.to c.take_by_kind.new.at c.take_by_state.new.at (Some o))
    c.in-Some-Some-take_by_state.field-0-is
    (c.in-Some-Some-take_by_state.ensures.taken transition.to transition.is_to) in
    let ends = taken.ends in
    let is = c.in-Some-Some-take_by_state.on-is in
    let inside = c.if-cursor-haystack.false in
    let later = c.pass_non_special-ascii.ensures.later in
    search (more, ends, is, inside, later, rules)

pub transitions-preserved : goal.transitions-preserved
transitions-preserved g c =
    let own = goal.at.transitions-preserved g c in
    let is = row g own.After-pass_non_special-ascii in
    let transition = led g own.In-Some-cached is.0 is.1 in
    record {
      near = c.transition.ensures.near;
      none = λ earliest.
          c.take_by_state.ensures.same transition.to transition.is_to
          (c.is_last.ensures.none transition.to transition.is_to earliest c.if-is_last.false)
          ∙ none g own.In-None earliest;
      on =
          subst (λ on. GoesToCursor (g.P.Patterns.table c.args.patterns.now)
          (g.P.Patterns.entries c.args.patterns.now) (chars c.args.haystack.now) c.args.self.now
          c.args.at.now on c.take_by_state.new.at) (sym c.in-Some-Some-take_by_state.on-is)
          (next_cursor c.args.haystack.now c.utf8.haystack (omega arith) (there g own.In-None)
          (led g own.In-Some-cached) c.in-Some-Some-take_by_state.on c.take_by_state.new.at
          (λ state at.
          subst (λ o. Takes c.pass_non_special-ascii.result.0.at c.in-Some-cached.known.row
          c.in-Some.end state c.take_by_kind.new.at c.take_by_state.new.at (Some o))
          c.in-Some-Some-take_by_state.field-0-is
          (c.in-Some-Some-take_by_state.ensures.taken state at)));
    }

pub returns-in-Some-None-take_by_state-clause-over :
    goal.returns-in-Some-None-take_by_state-clause-over
returns-in-Some-None-take_by_state-clause-over g c = λ _ low p from.
    let own = goal.at.returns-in-Some-None-take_by_state-clause-over g c in
    let is = row g own.After-pass_non_special-ascii in
    let transition = led g own.In-Some-cached is.0 is.1 in
    let ends : (state : State)
    → slice_get c.args.self.now.states c.in-Some-cached.known.state ≡ Some state
    → EndsScan c.pass_non_special-ascii.result.0.at state c.take_by_kind.new.at
    c.take_by_state.new.at = λ state at.
    subst (λ o. Takes c.pass_non_special-ascii.result.0.at c.in-Some-cached.known.row c.in-Some.end
    state c.take_by_kind.new.at c.take_by_state.new.at (Some o))
    c.in-Some-None-take_by_state.field-0-is
    (c.in-Some-None-take_by_state.ensures.taken state at) in
    preferred (g.P.Patterns.table c.args.patterns.now) (chars c.args.haystack.now)
    (g.P.Patterns.entries c.args.patterns.now) low _ (not (g.row.EARLIEST == 0))
    (λ earliest. (ends transition.to transition.is_to).some (ap best_reported
    (c.take_by_state.ensures.same transition.to transition.is_to
    (c.is_last.ensures.none transition.to transition.is_to earliest c.if-is_last.false)
    ∙ none g own.In-None earliest)))
    (ends_there c.args.haystack.now c.utf8.haystack (omega arith) (there g own.In-None)
    (led g own.In-Some-cached) c.take_by_state.new.at ends low p from)

pub settle_at-requires-2 : goal.settle_at-requires-2
settle_at-requires-2 g c =
    record { row = row g (goal.at.settle_at-requires-2 g c).After-pass_non_special-ascii }

-- nor by its state
left : (g : given.Over) (c : After-settle_at-2 g) → Stays c.transitions.at c.match-transition.at
left g c = elim c.match-transition.branch [
  | in_default w ↦ subst (λ (s : DfaPosition). Stays c.transitions.at s) (sym w.at-is) refl
  | in-Some+in-None+in_default-cached w ↦
      subst (λ (s : DfaPosition). Stays c.transitions.at s) (sym w.at-is)
      (w.in-None.ensures.stays refl)
  | in-Some+in-None+in-Some-cached+else-is_last+in-None-take_by_state w ↦
      let passed = passed_to_cursor c.transitions.invariant.on
      c.pass_non_special-ascii.ensures.on in
      let is = row_at_cursor passed c.requires.scanning in
      let own = w.in-Some-cached.ensures in
      let transition = w.in-Some.ensures.transition own.1 is.0 is.1 in
      let to = subst (λ (next_state : NextState). slice_get c.args.self.now.states next_state.state
      ≡ Some transition.to) (sym own.0) transition.is_to in
      subst (λ (s : DfaPosition). Stays c.transitions.at s) (sym w.at-is)
      (takes_after c.pass_non_special-ascii.result.0.at w.in-Some-cached.known.row w.in-Some.end
      transition.to c.transitions.at w.take_by_kind.new.at w.take_by_state.new.at None
      (w.in-None.ensures.stays refl) (w.in-None-take_by_state.ensures.taken transition.to to))
]

pub returns-clause-on : goal.returns-clause-on
returns-clause-on g c = λ _.
    let own = (goal.at.returns-clause-on g c).After-pass_non_special-ascii in
    from_cursor (kept_at_cursor (passed g own) (left g c)) c.settle_at-2.new.at
    c.settle_at-2.ensures.same

pub returns-clause-none : goal.returns-clause-none
returns-clause-none g c = λ earliest _.
    let own = goal.at.returns-clause-none g c in
    none_settled c.match-transition.at c.settle_at-2.new.at c.settle_at-2.ensures.same
    (row g own.After-pass_non_special-ascii)
    (ap (λ (s : DfaPosition). s.best) (left g c) ∙ c.transitions.invariant.none earliest)
