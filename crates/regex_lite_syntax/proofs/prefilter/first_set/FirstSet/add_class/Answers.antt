use Rattle.regex_lite_syntax.proofs.Common.{◌≡◌, ◌<◌, true, length, get_or, take, sym, ◌∙◌, subst}
use Rattle.regex_lite_syntax.proofs.Common.{inl, inr, arith, nat_tests, in_ranges, just, ClassRange}
use Rattle.regex_lite_syntax.specs.Sets.{span}
use Rattle.regex_lite_syntax.proofs.RangeLemmas.{in_ranges_more}
use Rattle.regex_lite_syntax.proofs.prefilter.first_set.StartLemmas.{grown_on, one_is_true}
use Rattle.regex_lite_syntax.proofs.prefilter.first_set.StartLemmas.{past_ascii_begin}
use Rattle.regex_lite_syntax.proofs.prefilter.first_set.FirstSet.add_class.Goals as goal

pub loop-range-preserved : goal.loop-range-preserved
loop-range-preserved c =
    let v = c.loop-range.invariant in
    let i = c.loop-range.range-index in
    let grown = c.add_range.ensures.grown in
    let none : ClassRange = record { start = 0; end = 0 } in
    let same = c.ranges-range-items.ensures.same in
    let within = subst (λ z. i < length z) same c.loop-range-test.true in
    record {
      grown = grown_on c.args.self.now c.loop-range.self c.add_range.new.self v.grown grown;
      added = λ d inside. (
          let more = in_ranges_more c.args.set.now i d none within in
          elim (one_is_true _ _ (sym more ∙ inside)) [
            | inl e ↦ grown.with d (v.added d e)
            | inr e ↦ c.add_range.ensures.added d
                (subst (λ z. span (get_or z i none).start (get_or z i none).end d ≡ true)
                (sym same) e)
          ]);
    }

pub returns-then-not-is_ascii-clause-added : goal.returns-then-not-is_ascii-clause-added
returns-then-not-is_ascii-clause-added c = λ d inside.
    let v = c.loop-range.invariant in
    let k = c.loop-range.range-index in
    let ranges = c.ranges-range-items.result.now in
    let none : ClassRange = record { start = 0; end = 0 } in
    let same = c.ranges-range-items.ensures.same in
    let start = (get_or ranges k none).start in
    let itself : just start start ≡ true = grind (arith, nat_tests) in
    past_ascii_begin c.add_char.new.self ranges k d none c.ranges-range-items.ensures.runs
    c.loop-range-test.true (sym c.is_ascii.ensures ∙ c.if-not-is_ascii.true)
    (c.add_char.ensures.added start itself)
    (λ held. c.add_char.ensures.grown.with d
    (v.added d (subst (λ z. in_ranges (take k z) d ≡ true) same held)))
    (subst (λ z. in_ranges z d ≡ true) (sym same) inside)
