use Rattle.regex_lite_meta.proofs.Common.{◌≡◌, ◌+◌, ◌<◌, ℕ, chars, length, ap}
use Rattle.regex_lite_meta.proofs.Common.{sym, subst, arith, rules, slice_index, Automaton}
use Rattle.regex_lite_meta.proofs.Common.{slice_index_or, ◌∙◌, classes_in, interval_of, NextState}
use Rattle.regex_lite_meta.specs.declared.lazy_dfa.state.TransitionKind.TheVariants as kind
use Rattle.regex_lite_meta.specs.LazyDfa.Cursors.{IsCursorAt, LeadsIfKnown}
use Rattle.regex_lite_meta.specs.LazyDfa.Stored.{is_known}
use Rattle.regex_lite_meta.proofs.lazy_dfa.HereLemmas.{edge_there}
use Rattle.regex_lite_meta.proofs.lazy_dfa.CursorLemmas.{cursor_on}
use Rattle.regex_lite_meta.proofs.lazy_dfa.TakenLemmas.{non_special_taken}
use Rattle.regex_lite_meta.proofs.lazy_dfa.NextStateLemmas.{ascii_transition, next_state_there}
use Rattle.regex_lite_meta.proofs.lazy_dfa.NextStateLemmas.{next_state_within}
use Rattle.regex_lite_meta.proofs.lazy_dfa.automaton.LazyDfa.pass_non_special.Given as given
use Rattle.regex_lite_meta.proofs.lazy_dfa.automaton.LazyDfa.pass_non_special.Goals as goal
use Rattle.regex_lite_meta.proofs.lazy_dfa.automaton.LazyDfa.pass_non_special.Goals.{After-ascii_class}

pub non_special-init : goal.non_special-init
non_special-init g c = record { on = λ low p is. (p, omega arith, is); later = omega arith }

-- where a search stands before the transition
there : (g : given.Over) (c : After-ascii_class g) → (low p : ℕ)
    × IsCursorAt (g.P.Patterns.table c.args.patterns.now) (g.P.Patterns.entries c.args.patterns.now)
    (chars c.args.haystack.now) low p c.args.self.now c.non_special.cursor c.args.at.now
there g c =
    let own = c.requires.scanning in
    let v = c.non_special.invariant.on own.0 own.1 own.2 in (own.0, v.0, v.2)

few : (g : given.Over) (c : After-ascii_class g) →
    c.ascii_class.result < classes_in c.args.self.now.intervals
few g c =
    subst (λ (z : Automaton). c.ascii_class.result < classes_in z.intervals) c.self.view_is
    c.ascii_class.ensures.few

within : (g : given.Over) (c : After-ascii_class g) →
    c.non_special.cursor.row + c.ascii_class.result < length c.next_states-next_states.result.now
within g c =
    let cursor = (there g c).2 in
    next_state_within c.args.self.now c.next_states-next_states.result.now
    c.next_states-next_states.ensures c.non_special.cursor.row c.ascii_class.result cursor.x
    cursor.row (few g c)

abbrev next_state : (g : given.Over) (c : After-ascii_class g) → NextState
next_state g c =
    slice_index_or c.next_states-next_states.result.now
    (c.non_special.cursor.row + c.ascii_class.result) (record {
      row = 0;
      state = 0;
      kind = kind.NonSpecial;
    })

-- where the transition leads, if it is cached
leads : (g : given.Over) (c : After-ascii_class g) → LeadsIfKnown
    (g.P.Patterns.table c.args.patterns.now) (g.P.Patterns.entries c.args.patterns.now)
    c.args.self.now c.args.haystack.now c.non_special.cursor.at c.non_special.cursor.row
    (next_state g c) (c.non_special.cursor.at + 1)
leads g c =
    let bs = c.args.haystack.now in
    let at = c.non_special.cursor.at in
    let cursor = there g c in
    let read = slice_index c.as_bytes-bytes.result.now at in
    let same : read ≡ slice_index bs at =
    ap (λ z. slice_index z at) c.as_bytes-bytes.ensures.value in
    ascii_transition (g.P.Patterns.table c.args.patterns.now)
    (g.P.Patterns.entries c.args.patterns.now) c.args.self.now c.requires.is_dfa bs at
    c.non_special.cursor.row c.ascii_class.result c.utf8.haystack
    (edge_there bs c.utf8.haystack cursor.2.scanning)
    (subst (λ z. at < length z) c.as_bytes-bytes.ensures.value c.non_special-test.true)
    (subst (λ z. z < 128) same c.if-byte-ge128.false)
    (subst (λ (z : Automaton). interval_of z.intervals.boundaries (slice_index bs at)
    ≡ c.ascii_class.result) c.self.view_is
    (ap (interval_of c.self.inside.classes.boundaries) (sym same) ∙ c.ascii_class.ensures.same))
    (few g c) (next_state g c) (λ x is.
    next_state_there c.args.self.now c.next_states-next_states.result.now
    c.next_states-next_states.ensures c.non_special.cursor.row c.ascii_class.result x is (few g c)
    _)

pub overflow_add-next_state : goal.overflow_add-next_state
overflow_add-next_state g c =
    let inside = within g (goal.at.overflow_add-next_state g c).After-ascii_class in
    search (inside, rules)

pub offset_bounds-next_states-cursor : goal.offset_bounds-next_states-cursor
offset_bounds-next_states-cursor g c =
    let inside = within g (goal.at.offset_bounds-next_states-cursor g c).After-ascii_class in
    search (inside, rules)

pub bounds-next_states-cursor : goal.bounds-next_states-cursor
bounds-next_states-cursor g c = within g (goal.at.bounds-next_states-cursor g c).After-ascii_class

pub non_special-preserved : goal.non_special-preserved
non_special-preserved g c =
    let own = (goal.at.non_special-preserved g c).After-ascii_class in
    let to = next_state g own in
    let later = c.non_special.invariant.later in
    let ends = c.after-cursor.ensures.at in
    record {
      on = λ low p is.
          let v = c.non_special.invariant.on low p is in
          let le = v.1 in
          let transition = leads g own (ap is_known c.in-NonSpecial.is) v.2.x v.2.row in (
            v.0 + 1,
            omega (arith, le),
            cursor_on (g.P.Patterns.table c.args.patterns.now)
                (g.P.Patterns.entries c.args.patterns.now) c.args.haystack.now c.utf8.haystack
                (omega arith) low v.0 c.args.self.now c.non_special.cursor c.args.at.now v.2 to
                (c.non_special.cursor.at + 1) transition c.args.at.now c.after-cursor.result
                (non_special_taken c.non_special.cursor.at (c.non_special.cursor.at + 1) to
                transition.to c.args.at.now c.after-cursor.result c.in-NonSpecial.is transition.kind
                ends c.after-cursor.ensures.row),
          );
      later = omega (arith, later, ends);
    }

pub returns-then-byte-ge128-clause-on : goal.returns-then-byte-ge128-clause-on
returns-then-byte-ge128-clause-on g c = c.non_special.invariant.on

pub returns-then-byte-ge128-clause-later : goal.returns-then-byte-ge128-clause-later
returns-then-byte-ge128-clause-later g c = c.non_special.invariant.later

pub returns-in_default : goal.returns-in_default
returns-in_default g c = record {
  on = c.non_special.invariant.on;
  later = c.non_special.invariant.later;
  next = leads g (goal.at.returns-in_default g c).After-ascii_class;
}

pub returns-clause-on : goal.returns-clause-on
returns-clause-on g c = c.non_special.invariant.on

pub returns-clause-later : goal.returns-clause-later
returns-clause-later g c = c.non_special.invariant.later
