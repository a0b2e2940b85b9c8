use Rattle.regex_lite_engine.proofs.Common.{length, ap, subst, arith}
use Rattle.regex_lite_syntax.specs.Prefilter.Needed.{Reaches}
use Rattle.regex_lite_engine.proofs.search.NeededLemmas.{passed_all, passed_on}
use Rattle.regex_lite_engine.proofs.search.SkipLemmas.{passes_where}
use Rattle.regex_lite_engine.proofs.search.start_finder.first_by_needed.Goals as goal

pub starts-init : goal.starts-init
starts-init g c = record {
  low = omega arith;
  high = c.requires.boundary.0;
  boundary = c.requires.boundary;
  passed = λ i within above below. absurd (omega (arith, above, below));
}

pub returns-in_default-clause-passes : goal.returns-in_default-clause-passes
returns-in_default-clause-passes g c = λ p is here at stands.
    let found = c.starts.invariant in
    let same = c.as_bytes-bytes.ensures.value in
    let end = ap length same in
    passes_where is stands (omega (arith, at, end, found.low, found.high))
    (λ i within above below. passed_all (g.F.StartFinder.never c.args.finder.now)
    c.args.needed.now c.requires.needed c.args.haystack.now c.utf8.haystack c.args.from
    c.starts.at found.passed
    (λ k from. subst (λ z. ¬ Reaches c.args.needed.now z k) same (c.in_default.ensures k from))
    i within above (omega (arith, below, at, end)))

pub returns-then-at-from-clause-passes : goal.returns-then-at-from-clause-passes
returns-then-at-from-clause-passes g c = λ p is here at stands.
    let found = c.starts.invariant in
    passes_where is stands (omega (arith, at, found.low))
    (λ i within above below. found.passed i within above (omega (arith, below, at)))

pub returns-then-start-reach-clause-passes : goal.returns-then-start-reach-clause-passes
returns-then-start-reach-clause-passes g c = λ p is here at stands.
    let found = c.starts.invariant in
    let same = c.as_bytes-bytes.ensures.value in
    let next = c.in-Some.ensures in
    let known = c.first_known-start.ensures in
    passes_where is stands (omega (arith, at, found.low, next.0, known.low))
    (λ i within above below. passed_on (g.F.StartFinder.never c.args.finder.now) c.args.needed.now
    c.requires.needed c.args.haystack.now c.utf8.haystack c.args.from c.starts.at
    c.in-Some.reach.from c.first_known-start.result found.passed
    (λ k from to. subst (λ z. ¬ Reaches c.args.needed.now z k) same (next.3 k from to))
    known.passed i within above (omega (arith, below, at)))

pub starts-preserved : goal.starts-preserved
starts-preserved g c =
    let found = c.starts.invariant in
    let same = c.as_bytes-bytes.ensures.value in
    let next = c.in-Some.ensures in
    let known = c.first_known-start.ensures in
    record {
      low = omega (arith, found.low, next.0, known.low);
      high = known.boundary.0;
      boundary = known.boundary;
      passed = passed_on (g.F.StartFinder.never c.args.finder.now) c.args.needed.now
          c.requires.needed c.args.haystack.now c.utf8.haystack c.args.from c.starts.at
          c.in-Some.reach.from c.first_known-start.result found.passed
          (λ k from to. subst (λ z. ¬ Reaches c.args.needed.now z k) same (next.3 k from to))
          known.passed;
    }
