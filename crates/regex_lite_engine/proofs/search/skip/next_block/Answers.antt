use Rattle.regex_lite_engine.proofs.Common.{◌-◌, inl, inr, arith, rules, cases_lt}
use Rattle.regex_lite_engine.proofs.search.BlockLemmas.{unsuited}
use Rattle.regex_lite_engine.proofs.search.skip.next_block.Goals as goal

pub all-preserved : goal.all-preserved
all-preserved c = record {
  low = omega (arith, c.all.invariant.low);
  high = omega (arith, c.all-test.true);
  passed = λ k from below. elim (cases_lt k c.all.at) [
    | inl old ↦ c.all.invariant.passed k from old
    | inr new ↦ (
      omega (arith, below, c.all-test.true),
      unsuited c.args.prefilter c.args.bytes.now c.all.at _ _ k new (omega (arith, new, below))
          (omega (arith, new, below))
          (c.may_begin_in.ensures c.if-may_begin_in.false (k - c.all.at)
          (search (rules, new, below, c.all-test.true))),
    )
  ];
}
