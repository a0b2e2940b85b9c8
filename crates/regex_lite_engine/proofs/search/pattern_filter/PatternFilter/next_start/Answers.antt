use Rattle.regex_lite_engine.proofs.Common.{chars, inl, sym, subst, IfSome, NeverBegins}
use Rattle.regex_lite_syntax.specs.Prefilter.StartFacts.{NeverStarts}
use Rattle.regex_lite_engine.specs.Search.Filters.{facts_of}
use Rattle.regex_lite_engine.specs.Search.Prefixes.{sets_of_prefix}
use Rattle.regex_lite_engine.specs.Search.Starts.{SkipsTo}
use Rattle.regex_lite_engine.specs.declared.search.pattern_filter.PatternFilter.{PatternFilter}
use Rattle.regex_lite_engine.proofs.search.SkipLemmas.{skips_as}
use Rattle.regex_lite_engine.proofs.search.pattern_filter.PatternFilter.next_start.Goals as goal

pub returns-in-Literal-clause-passes : goal.returns-in-Literal-clause-passes
returns-in-Literal-clause-passes c = λ p is.
    let bytes = c.args.haystack.now in
    let prefix = c.in-Literal.prefix in
    subst (λ (filter : PatternFilter). IfSome c.next_start-in-Literal.result
    (SkipsTo (NeverStarts (facts_of filter) (chars bytes)) bytes p)) (sym c.in-Literal.is)
    (skips_as (NeverBegins (sets_of_prefix prefix.first prefix.second) (chars bytes)) _ bytes p
    c.next_start-in-Literal.result (λ i never. inl never)
    (c.next_start-in-Literal.ensures.passes p is))

pub returns-in-Whole-clause-passes : goal.returns-in-Whole-clause-passes
returns-in-Whole-clause-passes c = λ p is.
    let bytes = c.args.haystack.now in
    subst (λ (filter : PatternFilter). IfSome c.next_start.result
    (SkipsTo (NeverStarts (facts_of filter) (chars bytes)) bytes p)) (sym c.in-Whole.is)
    (c.next_start.ensures.passes p is)
