use Rattle.regex_lite_engine.proofs.Common.{◌+◌, IfSome, subst, inl, inr, arith, cases_lt}
use Rattle.regex_lite_syntax.specs.Prefilter.Bytes.{IsPrefilterOf}
use Rattle.regex_lite_engine.proofs.search.skip.next_first.Goals as goal

pub returns-clause-passed : goal.returns-clause-passed
returns-clause-passed c = λ k from below.
    let prefixes = c.args.prefixes.now in
    let known =
    subst (λ found. IfSome found (IsPrefilterOf prefixes)) c.in-Some.is c.requires.prefilter in
    elim (cases_lt k (c.args.from + c.min.result)) [
      | inl near ↦
          inl (c.next_stop-at.ensures.passed k from
          (let past = c.if-at-near.false in omega (arith, near, past)))
      | inr far ↦
          elim (cases_lt k c.next_block-block.result) [
            | inl before ↦
                let reported = c.next_block-block.ensures.passed k far before in
                known c.args.bytes.now k reported.0 reported.1
            | inr after ↦ inl (c.next_stop-2.ensures.passed k after below)
          ]
    ]
