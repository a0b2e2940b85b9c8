use Rattle.regex_lite_syntax.proofs.Common.{true, ◌==◌, refl, ◌∙◌, arith}
use Rattle.regex_lite_syntax.proofs.prefilter.prefix_index.ColumnLemmas.{one_more_row, one_more_bit}
use Rattle.regex_lite_syntax.proofs.prefilter.prefix_index.rows.BitRows.set_all.Goals as goal

pub loop-code-preserved : goal.loop-code-preserved
loop-code-preserved c =
    let v = c.loop-code.invariant in
    let code = c.loop-code.code in
    record {
      set = λ r n inside. one_more_bit _ _ _ (n == c.args.number) _ _ _ (v.set r n inside)
          (c.set.ensures.set r n (omega (arith, inside, v.width)))
          (one_more_row (λ _. true) c.args.base code r refl);
      width = c.set.ensures.width ∙ v.width;
      all = c.set.ensures.all ∙ v.all;
      base = refl;
      number = refl;
    }
