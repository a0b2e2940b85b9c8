use Rattle.regex_lite_engine.proofs.Common.{◌≡◌, chars, inl, inr, offset, sym, subst, ap, ◌∙◌, Some}
use Rattle.std.proofs.Common.{MatchOption, option_map}
use Rattle.regex_lite_syntax.specs.Prefilter.StartFacts.{NoneStandsIn}
use Rattle.regex_lite_engine.proofs.search.SkipLemmas.{none_stands_in}
use Rattle.regex_lite_engine.proofs.search.skip.first_known.Goals as goal

pub returns-in-None-clause-passed : goal.returns-in-None-clause-passed
returns-in-None-clause-passed c = λ i within above below.
    inl (c.first_prefix.ensures.passed i within above below)

pub returns-in-Some-clause-passed : goal.returns-in-Some-clause-passed
returns-in-Some-clause-passed c = λ i within above below.
    let bytes = c.args.haystack.now in
    let words = c.in-Some.words.now in
    let known : c.args.filter.now.words ≡ Some words
    = sym c.words.ensures ∙ ap (option_map (λ w. w.now)) c.in-Some.is in
    inr (inl (subst (λ o. MatchOption o ⊥ (λ w. NoneStandsIn w (chars bytes) i)) (sym known)
    (none_stands_in words bytes i c.utf8.haystack
    (c.next_offset.ensures.none (offset (chars bytes) i) above below))))
