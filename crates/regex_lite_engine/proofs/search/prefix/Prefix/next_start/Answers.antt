use Rattle.regex_lite_engine.proofs.Common.{◌≤◌, length, refl, sym, subst, arith, IsPassed}
use Rattle.regex_lite_engine.specs.Search.Prefixes.{sets_of_prefix}
use Rattle.regex_lite_engine.proofs.search.here.HereLemmas.{at_most}
use Rattle.regex_lite_engine.proofs.search.SkipLemmas.{passes_between}
use Rattle.regex_lite_engine.proofs.search.prefix.Prefix.next_start.Goals as goal

pub next_offset-at-requires : goal.next_offset-at-requires
next_offset-at-requires c =
    subst (λ z. c.args.here.at ≤ length z) (sym c.as_bytes.ensures.value)
    (at_most c.args.haystack.now c.requires.0 c.args.here c.utf8.haystack c.requires.1)

pub returns-clause-passes : goal.returns-clause-passes
returns-clause-passes c = λ p is there at stands.
    let prefixes = sets_of_prefix c.args.self.first c.args.self.second in
    let same = c.as_bytes.ensures.value in
    let found = c.next_offset-at.ensures in
    passes_between prefixes c.args.haystack.now c.utf8.haystack (is.inside, is.bytes) stands
    (λ first. refl) (omega (arith, found.low, at))
    (subst (λ z. there.at ≤ length z) same (omega (arith, at, found.high)))
    (λ k from below. subst (λ z. IsPassed prefixes z k) same
    (found.passed k from (omega (arith, below, at))))
