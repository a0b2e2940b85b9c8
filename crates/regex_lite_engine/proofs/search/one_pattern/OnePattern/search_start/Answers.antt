use Rattle.regex_lite_engine.proofs.Common.{◌+◌, ◌^◌, ◌<◌, ◌≤◌, ◌⊎◌, chars, subst, inl, inr, arith}
use Rattle.regex_lite_engine.proofs.Common.{cases_lt, places_of, position_at, IsDeadAt}
use Rattle.regex_lite_syntax.specs.Prefilter.StartFacts.{NeverStarts}
use Rattle.regex_lite_engine.specs.Search.Filters.{facts_of}
use Rattle.regex_lite_engine.proofs.PositionLemmas.{position_is}
use Rattle.regex_lite_engine.proofs.search.FirstStartLemmas.{last_left, none_before_first}
use Rattle.regex_lite_engine.proofs.search.FirstStartLemmas.{standing, stands_after}
use Rattle.regex_lite_engine.proofs.search.SkipLemmas.{passes_as}
use Rattle.regex_lite_engine.proofs.search.one_pattern.OnePattern.search_start.Goals as goal

pub returns-then-self-clause-none : goal.returns-then-self-clause-none
returns-then-self-clause-none c = λ same i low high.
    let one = c.args.self.now in
    let bytes = c.args.haystack.now in
    let start = position_at bytes c.args.start in
    let reported = c.first_start-first.ensures in
    let at = c.first_start-first.result in
    let small : at + 1 < 2 ^ 64 = omega arith in
    let dead = IsDeadAt (places_of one.table.now) (chars bytes) one.entry in
    let w = stands_after bytes start at small c.utf8.haystack reported.boundary
    (reported.passes start (position_is bytes c.args.start c.utf8.haystack c.requires)) in
    let by_order : (i < w.q) ⊎ (w.q ≤ i) → dead i = λ order. elim order [
      | inl before ↦ one.facts (chars bytes) i (w.passed i low before)
      | inr past ↦
          subst dead
          (last_left bytes w.q i c.utf8.haystack w.is c.if-first-haystack.true past high)
          (one.ends c.if-self.true (chars bytes))
    ] in
    by_order (cases_lt i w.q)

pub returns-clause-least : goal.returns-clause-least
returns-clause-least c =
    let one = c.args.self.now in
    let bytes = c.args.haystack.now in
    let table = places_of one.table.now in
    let start = position_at bytes c.args.start in
    let reported = c.first_start-first.ensures in
    let at = c.first_start-first.result in
    let small : at + 1 < 2 ^ 64 = omega arith in
    none_before_first table bytes c.utf8.haystack one.entry start (standing bytes at small)
    (passes_as (NeverStarts (facts_of one.filter) (chars bytes))
    (IsDeadAt table (chars bytes) one.entry) (chars bytes) start (standing bytes at small)
    (λ i never. one.facts (chars bytes) i never)
    (stands_after bytes start at small c.utf8.haystack reported.boundary
    (reported.passes start (position_is bytes c.args.start c.utf8.haystack c.requires))))
