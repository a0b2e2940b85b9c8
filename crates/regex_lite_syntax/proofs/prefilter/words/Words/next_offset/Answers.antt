use Rattle.regex_lite_syntax.proofs.Common.{arith, subst, IsCharBoundary, NoneStands}
use Rattle.regex_lite_syntax.specs.Prefilter.Words.{AnyStandsAt}
use Rattle.regex_lite_syntax.proofs.prefilter.words.Words.next_offset.Goals as goal

pub returns-in-None-clause-none : goal.returns-in-None-clause-none
returns-in-None-clause-none c = λ at low _.
    subst (λ bytes. ¬ AnyStandsAt c.args.self.now bytes at) c.as_bytes.ensures.value
    (c.in-None.ensures.next at low)

pub returns-in-Some-clause-high : goal.returns-in-Some-clause-high
returns-in-Some-clause-high c =
    omega (arith, c.in-Some.ensures.boundary.0, c.as_bytes.ensures.len)

pub returns-in-Some-clause-none : goal.returns-in-Some-clause-none
returns-in-Some-clause-none c =
    subst (λ bytes. NoneStands c.args.self.now bytes c.args.from c.in-Some.at)
    c.as_bytes.ensures.value c.in-Some.ensures.next.1

pub returns-in-Some-clause-boundary : goal.returns-in-Some-clause-boundary
returns-in-Some-clause-boundary c =
    subst (λ bytes. IsCharBoundary bytes c.in-Some.at) c.as_bytes.ensures.value
    c.in-Some.ensures.boundary
