use Rattle.regex_lite_meta.proofs.Common.{◌≡◌, ◌+◌, length, chars, None, inl, inr, subst}
use Rattle.regex_lite_meta.proofs.Common.{rules}
use Rattle.regex_lite_engine.proofs.Common.{IsTrue}
use Rattle.regex_lite_engine.proofs.search.here.HereLemmas.{at_most, less_left, over_at}
use Rattle.regex_lite_meta.specs.ListPass.{PassKnowsAll}
use Rattle.regex_lite_meta.proofs.list_matches.TriedLemmas.{all_passed_over}
use Rattle.regex_lite_meta.proofs.list_matches.pass.ListPass.go.Goals as goal

pub overflow_sub-haystack : goal.overflow_sub-haystack
overflow_sub-haystack c =
    let from = c.requires.passed in
    at_most c.args.haystack.now from.1 c.args.from c.utf8.haystack from.2

pub stops-init : goal.stops-init
stops-init c = record {
  passed = λ s p is passed. (p, is, passed);
  pass = c.requires.pass;
  kept = c.requires.kept;
  ready = λ none. none;
}

pub pass_over-stop-requires : goal.pass_over-stop-requires
pass_over-stop-requires c =
    let from = c.requires.passed in
    let at = c.stops.invariant.passed from.0 from.1 from.2 from.3 in
    (at.0, at.1)

pub try_each-requires-clause-here : goal.try_each-requires-clause-here
try_each-requires-clause-here c =
    let from = c.requires.passed in
    let at = c.stops.invariant.passed from.0 from.1 from.2 from.3 in
    let w = c.pass_over-stop.ensures at.0 at.1 in
    (w.q, w.is)

pub returns-then-not-branch-clause-passed : goal.returns-then-not-branch-clause-passed
returns-then-not-branch-clause-passed c = λ s p is passed.
    let v = c.stops.invariant in
    let at = v.passed s p is passed in
    let w = rw (v.pass.table, v.pass.entries) at c.pass_over-stop.ensures at.0 at.1 in (
      w.q,
      w.is,
      (c.in_ok-try_each.ensures.tried s w.q w.is
          (all_passed_over c.args.list.now c.args.haystack.now c.utf8.haystack s at.0
          c.pass_over-stop.result c.stops.self.statuses.items w at.2)).0,
    )

pub returns-then-is_none-clause-passed : goal.returns-then-is_none-clause-passed
returns-then-is_none-clause-passed c = λ s p is passed.
    let v = c.stops.invariant in
    let at = v.passed s p is passed in
    let w = rw (v.pass.table, v.pass.entries) at c.pass_over-stop.ensures at.0 at.1 in
    let tried = c.in_ok-try_each.ensures.tried s w.q w.is
    (all_passed_over c.args.list.now c.args.haystack.now c.utf8.haystack s at.0
    c.pass_over-stop.result c.stops.self.statuses.items w at.2) in
    let none : c.pass_over-stop.result.after ≡ None = search rules in
    let all : IsTrue c.in_ok-try_each.field-0 = search rules in
    let over : w.q ≡ length (chars c.args.haystack.now)
    = elim (over_at {Q = ⊥} (chars c.args.haystack.now) w.q c.pass_over-stop.result w.is
    (inl none)) [
      | inl same ↦ same
      | inr nothing ↦ absurd nothing
    ] in
    subst (λ z. PassKnowsAll c.args.list.now c.args.haystack.now s (z + 1)
    c.try_each.new.self.statuses.items) over (tried.1 all)

pub next-here-requires : goal.next-here-requires
next-here-requires c =
    let from = c.requires.passed in
    let at = c.stops.invariant.passed from.0 from.1 from.2 from.3 in
    let w = c.pass_over-stop.ensures at.0 at.1 in
    (w.q, w.is, search rules)

pub returns-then-is_spent-clause-passed : goal.returns-then-is_spent-clause-passed
returns-then-is_spent-clause-passed c = λ s p is passed.
    let v = c.stops.invariant in
    let at = v.passed s p is passed in
    let w = rw (v.pass.table, v.pass.entries) at c.pass_over-stop.ensures at.0 at.1 in
    let all : IsTrue c.in_ok-try_each.field-0 = search rules in (
      w.q + 1,
      c.next-here.ensures w.q w.is,
      (c.in_ok-try_each.ensures.tried s w.q w.is
          (all_passed_over c.args.list.now c.args.haystack.now c.utf8.haystack s at.0
          c.pass_over-stop.result c.stops.self.statuses.items w at.2)).1 all,
    )

pub stops-smaller : goal.stops-smaller
stops-smaller c =
    let from = c.requires.passed in
    let at = c.stops.invariant.passed from.0 from.1 from.2 from.3 in
    let w = c.pass_over-stop.ensures at.0 at.1 in
    less_left c.args.haystack.now at.0 w.q c.stops.here c.next-here.result c.utf8.haystack at.1
    (c.next-here.ensures w.q w.is) w.later

pub stops-preserved : goal.stops-preserved
stops-preserved c =
    let v = c.stops.invariant in
    record {
      passed = λ s p is passed.
          let at = v.passed s p is passed in
          let w = rw (v.pass.table, v.pass.entries) at c.pass_over-stop.ensures at.0 at.1 in
          let all : IsTrue c.in_ok-try_each.field-0 = search rules in (
            w.q + 1,
            c.next-here.ensures w.q w.is,
            (c.in_ok-try_each.ensures.tried s w.q w.is
                (all_passed_over c.args.list.now c.args.haystack.now c.utf8.haystack s at.0
                c.pass_over-stop.result c.stops.self.statuses.items w at.2)).1 all,
          );
      pass = c.in_ok-try_each.ensures.pass;
      kept = c.in_ok-try_each.ensures.kept;
      ready = λ none. (c.in_ok-try_each.ensures.ready (v.ready none)).0;
    }
