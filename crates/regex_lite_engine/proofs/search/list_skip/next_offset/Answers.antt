use Rattle.regex_lite_engine.proofs.Common.{◌≡◌, ℕ, ◌+◌, sym, subst, inl, inr, arith, cases_lt}
use Rattle.regex_lite_engine.proofs.Common.{IsPassedByAll}
use Rattle.regex_lite_engine.proofs.search.list_skip.next_offset.Goals as goal
use Rattle.regex_lite_engine.proofs.search.list_skip.next_offset.Goals.{
  then-not-passes_four+else-loop-k-test,
  else-not-passes_four,
}

pub loop-k-preserved : goal.loop-k-preserved
loop-k-preserved c =
    let at : ℕ = c.fours.at + c.loop-k.k in
    record {
      low = c.loop-k.invariant.low;
      high = c.loop-k.invariant.high;
      passed = λ k from below. elim (cases_lt k at) [
        | inl lt ↦ c.loop-k.invariant.passed k from lt
        | inr ge ↦
            let same : k ≡ at = omega (arith, ge, below) in
            subst (IsPassedByAll c.args.prefixes.now c.args.bytes.now) (sym same)
            (c.may_begin_at.ensures.passed c.if-may_begin_at.false)
      ];
    }

pub fours-preserved : goal.fours-preserved
fours-preserved c =
    record {
      low = omega (arith, c.fours.invariant.low);
      high = omega (arith, c.fours-test.true);
      passed = elim c.if-not-passes_four.branch [
        | then-not-passes_four+else-loop-k-test w ↦ (
            λ k from below. w.loop-k.invariant.passed k from
            (omega (arith, below, w.loop-k-test.false)))
        | else-not-passes_four w ↦ (λ k from below. elim (cases_lt k c.fours.at) [
          | inl lt ↦ c.fours.invariant.passed k from lt
          | inr ge ↦ inl (c.passes_four.ensures w.if-not-passes_four.false k ge below)
        ])
      ];
    }

pub ones-preserved : goal.ones-preserved
ones-preserved c =
    record {
      low = omega (arith, c.ones.invariant.low);
      high = omega (arith, c.ones-test.true);
      passed = λ k from below. elim (cases_lt k c.ones.at) [
        | inl lt ↦ c.ones.invariant.passed k from lt
        | inr ge ↦
            let same : k ≡ c.ones.at = omega (arith, ge, below) in
            subst (IsPassedByAll c.args.prefixes.now c.args.bytes.now) (sym same)
            (c.may_begin_at-in-ones.ensures.passed c.if-may_begin_at-2.false)
      ];
    }
