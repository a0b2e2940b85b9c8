use Rattle.regex_lite_engine.proofs.Common.{◌≡◌, false, chars, inl, rules}
use Rattle.regex_lite_engine.specs.Search.Filters.{facts_of}
use Rattle.regex_lite_engine.proofs.search.FirstByteLemmas.{never_at}
use Rattle.regex_lite_engine.proofs.search.pattern_filter.PatternFilter.may_start.Goals as goal

pub returns-then-not-may_begin : goal.returns-then-not-may_begin
returns-then-not-may_begin c = λ off p is.
    let no : c.may_begin.result ≡ false = search rules in
    inl (inl (never_at (facts_of c.args.self).prefixes.first (chars c.args.haystack.now) p
    c.args.here is (c.may_begin.ensures no)))
