use Rattle.regex_lite_syntax.proofs.Common.{◌≡◌, ◌+◌, ◌-◌, ◌≤◌, [], ◌∷◌, ◌++◌, length, get_or, take}
use Rattle.regex_lite_syntax.proofs.Common.{IsTrue, sym, subst, arith, rules, is_character}
use Rattle.regex_lite_syntax.proofs.Common.{next_character, AreRuns, ClassRange}
use Rattle.std.proofs.lemmas.List.{take_more_set}
use Rattle.regex_lite_syntax.proofs.RangeLemmas.{in_ranges-push}
use Rattle.regex_lite_syntax.proofs.class.JoinedRangeLemmas.{max_above, until, runs_append}
use Rattle.regex_lite_syntax.proofs.class.JoinedRangeLemmas.{runs_until, in_joined}
use Rattle.regex_lite_syntax.proofs.class.JoinedRangeLemmas.{starts_until, starts_last}
use Rattle.regex_lite_syntax.proofs.class.JoinedRangeLemmas.{starts_push, last_of, last_set}
use Rattle.regex_lite_syntax.proofs.class.runs.join.Goals as goal
use Rattle.regex_lite_syntax.proofs.class.runs.join.Goals.{
  else-runs-gt0-via-then-runs-gt0+else-are_joined,
  else-runs-gt0-via-else-runs-gt0,
}

pub returns-then-are_joined-clause-runs : goal.returns-then-are_joined-clause-runs
returns-then-are_joined-clause-runs c =
    let xs = c.args.ranges.now in
    let n = c.args.runs in
    let none : ClassRange = record { start = 0; end = 0 } in
    let last = get_or xs (n - 1) none in
    let end = c.max-last.result in
    let inside : n ≤ length xs = omega (arith, c.requires.inside) in
    let runs = rw (last_of xs n none c.if-runs-gt0.true inside) at c.requires.runs in
    let is : IsTrue (is_character end) = search rules in
    let later : last.end ≤ end = rw c.max-last.ensures (max_above last.end c.args.range.end) in
    rw (last_set xs n (until end last) c.if-runs-gt0.true inside)
    (runs_until 0 (take (n - 1) xs) last end runs is later)

pub returns-then-are_joined-clause-in_order : goal.returns-then-are_joined-clause-in_order
returns-then-are_joined-clause-in_order c =
    let xs = c.args.ranges.now in
    let n = c.args.runs in
    let none : ClassRange = record { start = 0; end = 0 } in
    let last = get_or xs (n - 1) none in
    let inside : n ≤ length xs = omega (arith, c.requires.inside) in
    let all = rw (last_of xs n none c.if-runs-gt0.true inside) at c.requires.in_order in
    rw (last_set xs n (until c.max-last.result last) c.if-runs-gt0.true inside)
    (starts_until c.args.range.start c.max-last.result (take (n - 1) xs) last all)

pub returns-then-are_joined-clause-members : goal.returns-then-are_joined-clause-members
returns-then-are_joined-clause-members c d =
    let xs = c.args.ranges.now in
    let n = c.args.runs in
    let none : ClassRange = record { start = 0; end = 0 } in
    let last = get_or xs (n - 1) none in
    let inside : n ≤ length xs = omega (arith, c.requires.inside) in
    let whole = last_of xs n none c.if-runs-gt0.true inside in
    let first =
    starts_last c.args.range.start (take (n - 1) xs) last (rw whole at c.requires.in_order) in
    let joined =
    in_joined (take (n - 1) xs) last c.args.range c.max-last.result d first c.if-are_joined.ensures
    c.max-last.ensures in
    rw (last_set xs n (until c.max-last.result last) c.if-runs-gt0.true inside, whole) joined

pub returns-clause-runs : goal.returns-clause-runs
returns-clause-runs c =
    let xs = c.args.ranges.now in
    let n = c.args.runs in
    let none : ClassRange = record { start = 0; end = 0 } in
    let last = get_or xs (n - 1) none in
    rw (take_more_set xs n c.args.range c.requires.inside) (elim c.else-runs-gt0.branch [
      | else-runs-gt0-via-then-runs-gt0+else-are_joined w ↦
          let inside : n ≤ length xs = omega (arith, c.requires.inside) in
          let whole = last_of xs n none w.if-runs-gt0.true inside in
          let apart : AreRuns (next_character last.end + 1) (c.args.range ∷ []) =
          search (rules, w.if-are_joined.ensures) in
          rw whole (runs_append 0 (take (n - 1) xs) (c.args.range ∷ []) last
          (rw whole at c.requires.runs) apart)
      | else-runs-gt0-via-else-runs-gt0 w ↦
          let empty : n ≡ 0 = omega (arith, w.if-runs-gt0.false) in
          let alone : AreRuns 0 (c.args.range ∷ []) = search (rules, c.if-range.false) in
          subst (λ k. AreRuns 0 (take k xs ++ c.args.range ∷ [])) (sym empty) alone
    ])

pub returns-clause-in_order : goal.returns-clause-in_order
returns-clause-in_order c =
    rw (take_more_set c.args.ranges.now c.args.runs c.args.range c.requires.inside)
    (starts_push c.args.range.start
    (take c.args.runs c.args.ranges.now) c.args.range c.requires.in_order (omega arith))

pub returns-clause-members : goal.returns-clause-members
returns-clause-members c d =
    rw (take_more_set c.args.ranges.now c.args.runs c.args.range c.requires.inside)
    (in_ranges-push (take c.args.runs c.args.ranges.now) c.args.range d)
