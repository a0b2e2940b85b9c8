use Rattle.regex_lite_engine.proofs.Common.{subst, inl, inr, arith, cases_lt, IsPassed}
use Rattle.regex_lite_engine.specs.Search.Prefixes.{sets_of_prefix}
use Rattle.regex_lite_engine.proofs.search.prefix.Prefix.next_before.Goals as goal

pub bytes-preserved : goal.bytes-preserved
bytes-preserved c = record {
  low = omega (arith, c.bytes.invariant.low);
  high = omega (arith, c.bytes-test.true);
  passed = λ k from below. elim (cases_lt k c.bytes.at) [
    | inl old ↦ c.bytes.invariant.passed k from old
    | inr new ↦
        subst (IsPassed (sets_of_prefix c.args.self.first c.args.self.second) c.args.bytes.now)
        (omega (arith, new, below)) (c.stands_at.ensures.passed c.if-stands_at.false)
  ];
}
