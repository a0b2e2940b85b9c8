use Rattle.regex_lite_engine.proofs.Common.{◌≡◌, false, sym, subst}
use Rattle.regex_lite_syntax.specs.Prefilter.FirstSet.{may_begin}
use Rattle.regex_lite_engine.specs.Search.Filters.{facts_of}
use Rattle.regex_lite_engine.specs.declared.search.pattern_filter.PatternFilter.{PatternFilter}
use Rattle.regex_lite_engine.proofs.search.pattern_filter.PatternFilter.may_begin.Goals as goal

pub returns-in-Literal : goal.returns-in-Literal
returns-in-Literal c = λ off.
    let here = c.args.here in
    subst
    (λ (filter : PatternFilter).
    may_begin (facts_of filter).prefixes.first here.before here.after ≡ false)
    (sym c.in-Literal.is) (c.may_begin-in-Literal.ensures off here.before)
