use Rattle.regex_lite_engine.proofs.Common.{◌≤◌, length, chars, inl, refl, sym, subst, arith}
use Rattle.regex_lite_engine.proofs.Common.{IsPassed, NeverBegins}
use Rattle.regex_lite_syntax.specs.Prefilter.StartFacts.{NeverStarts}
use Rattle.regex_lite_engine.specs.Search.Filters.{facts_of}
use Rattle.regex_lite_engine.specs.Search.Prefixes.{sets_of_prefix}
use Rattle.regex_lite_engine.specs.Search.Starts.{SkipsTo}
use Rattle.regex_lite_engine.specs.declared.search.pattern_filter.PatternFilter.{PatternFilter}
use Rattle.regex_lite_engine.specs.declared.search.pattern_filter.PatternFilter.TheVariants.{
  Literal,
}
use Rattle.regex_lite_engine.proofs.search.SkipLemmas.{passes_as, passes_between}
use Rattle.regex_lite_engine.proofs.search.pattern_filter.PatternFilter.first_start.Goals as goal

pub returns-in-Literal-clause-passes : goal.returns-in-Literal-clause-passes
returns-in-Literal-clause-passes c = λ p is.
    let prefix = c.in-Literal.prefix in
    let prefixes = sets_of_prefix prefix.first prefix.second in
    let bytes = c.args.haystack.now in
    let same = c.as_bytes.ensures.value in
    let found = c.next_offset.ensures in
    subst (λ (filter : PatternFilter). SkipsTo (NeverStarts (facts_of filter) (chars bytes)) bytes p
    c.next_offset.result) (sym c.in-Literal.is)
    (λ there at stands. passes_as (NeverBegins prefixes (chars bytes))
    (NeverStarts (facts_of (Literal prefix)) (chars bytes)) (chars bytes) p there
    (λ i never. inl never)
    (passes_between prefixes bytes c.utf8.haystack is stands (λ first. refl)
    (omega (arith, found.low, at))
    (subst (λ z. there.at ≤ length z) same (omega (arith, at, found.high)))
    (λ k from below. subst (λ z. IsPassed prefixes z k) same
    (found.passed k from (omega (arith, below, at))))))

pub returns-in-Whole-clause-passes : goal.returns-in-Whole-clause-passes
returns-in-Whole-clause-passes c = λ p is.
    let bytes = c.args.haystack.now in
    subst (λ (filter : PatternFilter).
    SkipsTo (NeverStarts (facts_of filter) (chars bytes)) bytes p c.first_start.result)
    (sym c.in-Whole.is) (c.first_start.ensures.passes p is)
