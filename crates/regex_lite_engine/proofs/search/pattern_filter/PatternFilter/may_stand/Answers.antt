use Rattle.regex_lite_engine.proofs.Common.{◌≡◌, ℕ, ◌≤◌, List, length, chars, inl, inr, sym, subst}
use Rattle.regex_lite_engine.proofs.Common.{ap, ◌∙◌, Some}
use Rattle.std.proofs.Common.{MatchOption, option_map}
use Rattle.regex_lite_syntax.specs.Prefilter.StartFacts.{NeverStarts, NoneStandsIn}
use Rattle.regex_lite_syntax.specs.Prefilter.Words.{AnyStandsAt}
use Rattle.regex_lite_engine.specs.Search.Filters.{facts_of}
use Rattle.regex_lite_engine.specs.declared.search.pattern_filter.PatternFilter.{PatternFilter}
use Rattle.regex_lite_engine.proofs.search.SkipLemmas.{none_stands_in}
use Rattle.regex_lite_engine.proofs.search.here.HereLemmas.{at_most}
use Rattle.regex_lite_engine.proofs.search.pattern_filter.PatternFilter.may_stand.Goals as goal

pub may_stand-requires : goal.may_stand-requires
may_stand-requires c =
    subst (λ (bs : List ℕ). c.args.here.at ≤ length bs) (sym c.as_bytes.ensures.value)
    (at_most c.args.haystack.now c.requires.0 c.args.here c.utf8.haystack c.requires.1)

pub returns-in-Some : goal.returns-in-Some
returns-in-Some c = λ off p is.
    let bytes = c.args.haystack.now in
    let words = c.in-Some.words.now in
    let known : c.in-Whole.filter.now.words ≡ Some words
    = sym c.words.ensures ∙ ap (option_map (λ w. w.now)) c.in-Some.is in
    subst (λ (filter : PatternFilter). NeverStarts (facts_of filter) (chars bytes) p)
    (sym c.in-Whole.is)
    (inr (inl (subst (λ o. MatchOption o ⊥ (λ w. NoneStandsIn w (chars bytes) p)) (sym known)
    (none_stands_in words bytes p c.utf8.haystack
    (subst (λ at. ¬ AnyStandsAt words bytes at) is.bytes
    (subst (λ bs. ¬ AnyStandsAt words bs c.args.here.at) c.as_bytes.ensures.value
    (c.may_stand.ensures off)))))))
