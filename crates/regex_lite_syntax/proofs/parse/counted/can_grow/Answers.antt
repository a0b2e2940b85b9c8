use Rattle.regex_lite_syntax.proofs.Common.{inr, arith, le-leb, leb-true, as_it_is}
use Rattle.regex_lite_syntax.proofs.grammar.MoreDigitsLemmas.{between_more, others_more}
use Rattle.regex_lite_syntax.proofs.grammar.MoreDigitsLemmas.{reaches_between, reaches_small}
use Rattle.regex_lite_syntax.proofs.parse.counted.can_grow.Goals as goal

pub loop-high-init : goal.loop-high-init
loop-high-init c = record {
  ordered = (omega arith, omega arith);
  between = λ n from to. as_it_is (omega (arith, from, to));
  others = λ n grows. inr (c.args.number, omega arith, omega arith, grows);
}

pub loop-high-preserved : goal.loop-high-preserved
loop-high-preserved c =
    let kept = c.loop-high.invariant in
    record {
      ordered = (omega (arith, kept.ordered), omega arith);
      between = between_more kept.between;
      others = λ n grows. others_more (omega (arith, c.loop-high-test.true)) (kept.others n grows);
    }

pub returns : goal.returns
returns c =
    let kept = c.loop-high.invariant in
    let most = c.from-2.ensures in (
      λ small.
          reaches_between kept.ordered.0 (omega (arith, c.loop-high-test.false)) (omega arith)
          (omega (arith, leb-true c.loop-high.low c.from-2.result small, most)) kept.between,
      λ can.
          le-leb c.loop-high.low c.from-2.result
          (omega (arith, most, reaches_small kept.others can)),
    )
