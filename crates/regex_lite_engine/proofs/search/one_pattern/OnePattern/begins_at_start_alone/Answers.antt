use Rattle.regex_lite_engine.proofs.Common.{◌<◌, ◌≤◌, ◌⊎◌, length, subst, inl, inr, arith, cases_lt}
use Rattle.regex_lite_engine.proofs.Common.{places_of, IsDeadAt}
use Rattle.regex_lite_engine.specs.Search.Filters.{facts_of}
use Rattle.regex_lite_engine.proofs.search.FirstStartLemmas.{only_at_start}
use Rattle.regex_lite_engine.proofs.search.one_pattern.OnePattern.begins_at_start_alone.Goals
    as goal

pub returns-then-self : goal.returns-then-self
returns-then-self c = λ reported haystack i low high.
    let one = c.args.self.now in
    let table = places_of one.table.now in
    let prefixes = (facts_of one.filter).prefixes in
    let by_order : (i < length haystack) ⊎ (length haystack ≤ i)
    → IsDeadAt table haystack one.entry i = λ order. elim order [
      | inl before ↦
          one.facts haystack i (inl
          (inl (only_at_start prefixes.first haystack i (c.begins_with_none.ensures reported) low
          before)))
      | inr past ↦
          subst (IsDeadAt table haystack one.entry) (omega (arith, past, high))
          (one.ends c.if-self.true haystack)
    ] in
    by_order (cases_lt i (length haystack))
