use Rattle.regex_lite_engine.proofs.Common.{◌≡◌, refl, subst, inl, inr, arith, cases_lt, IsPassed}
use Rattle.regex_lite_engine.proofs.search.skip.next_offset.Goals as goal

pub stops-preserved : goal.stops-preserved
stops-preserved c =
    let low = c.next_first-at.ensures.low in
    let high = c.next_first-at.ensures.high in
    record {
      low = omega (arith, c.stops.invariant.low, low);
      high = omega (arith, high);
      passed = λ k from below. elim (cases_lt k c.stops.at) [
        | inl before ↦ c.stops.invariant.passed k from before
        | inr after ↦
            elim (cases_lt k c.next_first-at.result) [
              | inl before ↦ c.next_first-at.ensures.passed k after before
              | inr there ↦
                  let same : c.next_first-at.result ≡ k = omega (arith, there, below) in
                  subst (IsPassed c.args.prefixes.now c.args.bytes.now) same
                  (inr (c.if-may_go_on.ensures refl))
            ]
      ];
    }
