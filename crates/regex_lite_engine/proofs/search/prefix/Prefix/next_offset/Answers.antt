use Rattle.regex_lite_engine.proofs.Common.{inl, inr, arith, cases_lt}
use Rattle.regex_lite_engine.proofs.search.PrefixLemmas.{passed_unsuited}
use Rattle.regex_lite_engine.proofs.search.prefix.Prefix.next_offset.Goals as goal

pub returns-clause-passed : goal.returns-clause-passed
returns-clause-passed c = λ k from below. elim (cases_lt k c.next_before-at.result) [
  | inl near ↦ c.next_before-at.ensures.passed k from near
  | inr later ↦ elim (cases_lt k c.next_block-block.result) [
    | inl lt ↦
        let reported = c.next_block-block.ensures.passed k
        (omega (arith, later, c.if-at-near.false)) lt in
        passed_unsuited c.args.self.first c.args.self.second c.args.bytes.now k c.args.self.ascii
        reported.0 reported.1
    | inr last ↦ c.next_before.ensures.passed k last below
  ]
]
