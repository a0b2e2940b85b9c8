use Rattle.regex_lite_syntax.proofs.Common.{◌+◌, ◌≤◌, [], ◌∷◌, ◌++◌, IsTrue, rules, is_character}
use Rattle.regex_lite_syntax.proofs.Common.{next_character, AreRuns}
use Rattle.regex_lite_syntax.proofs.RangeLemmas.{in_ranges-push}
use Rattle.regex_lite_syntax.proofs.class.JoinedRangeLemmas.{max_above, runs_append, runs_until}
use Rattle.regex_lite_syntax.proofs.class.JoinedRangeLemmas.{in_joined, starts_until, starts_last}
use Rattle.regex_lite_syntax.proofs.class.runs.append.Goals as goal

pub returns-in_ok-push-in-Some-clause-runs : goal.returns-in_ok-push-in-Some-clause-runs
returns-in_ok-push-in-Some-clause-runs c =
    let last = c.in-Some.last in
    let runs = rw c.in-Some.ensures.items at c.requires.runs in
    let is : IsTrue (is_character c.max-end.result) = search rules in
    let later : last.end ≤ c.max-end.result =
    rw c.max-end.ensures (max_above last.end c.args.range.end) in
    rw c.in_ok-push-in-Some.ensures.items
    (runs_until 0 c.pop.new.self.items last c.max-end.result runs is later)

pub returns-in_ok-push-in-Some-clause-in_order : goal.returns-in_ok-push-in-Some-clause-in_order
returns-in_ok-push-in-Some-clause-in_order c =
    let all = rw c.in-Some.ensures.items at c.requires.in_order in
    rw c.in_ok-push-in-Some.ensures.items
    (starts_until c.args.range.start c.max-end.result c.pop.new.self.items c.in-Some.last all)

pub returns-in_ok-push-in-Some-clause-members : goal.returns-in_ok-push-in-Some-clause-members
returns-in_ok-push-in-Some-clause-members c d =
    let before = c.pop.new.self.items in
    let last = c.in-Some.last in
    let range = c.args.range in
    let first =
    starts_last range.start before last (rw c.in-Some.ensures.items at c.requires.in_order) in
    let joined = in_joined before last range c.max-end.result d first c.if-are_joined.ensures
    c.max-end.ensures in
    rw (c.in_ok-push-in-Some.ensures.items, c.in-Some.ensures.items) joined

pub returns-in_ok-push-in-Some-2-2-clause-runs : goal.returns-in_ok-push-in-Some-2-2-clause-runs
returns-in_ok-push-in-Some-2-2-clause-runs c =
    let last = c.in-Some.last in
    let runs = rw c.in-Some.ensures.items at c.requires.runs in
    let apart : AreRuns (next_character last.end + 1) (c.args.range ∷ []) =
    search (rules, c.if-are_joined.ensures) in
    rw (c.in_ok-push-in-Some-2-2.ensures.items, c.in_ok-push-in-Some-2.ensures.items)
    (runs_append 0 c.pop.new.self.items (c.args.range ∷ []) last runs apart)

pub returns-in_ok-push-in-Some-2-2-clause-members :
    goal.returns-in_ok-push-in-Some-2-2-clause-members
returns-in_ok-push-in-Some-2-2-clause-members c d =
    rw (
      c.in_ok-push-in-Some-2-2.ensures.items,
      c.in_ok-push-in-Some-2.ensures.items,
      c.in-Some.ensures.items,
    ) (in_ranges-push (c.pop.new.self.items ++ c.in-Some.last ∷ []) c.args.range d)
