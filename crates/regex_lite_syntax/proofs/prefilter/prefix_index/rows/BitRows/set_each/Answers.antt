use Rattle.regex_lite_syntax.proofs.Common.{◌≡◌, ◌+◌, ◌&&◌, ◌||◌, ◌==◌, sym, refl, ap, ◌∙◌, arith}
use Rattle.regex_lite_syntax.proofs.Common.{is_in_column, has, begins_with}
use Rattle.regex_lite_syntax.proofs.prefilter.prefix_index.ColumnLemmas.{one_more_row, one_more_bit}
use Rattle.regex_lite_syntax.proofs.prefilter.prefix_index.ColumnLemmas.{no_more_rows}
use Rattle.regex_lite_syntax.proofs.prefilter.prefix_index.rows.BitRows.set_each.Goals.{
  then-begins_in,
}
use Rattle.regex_lite_syntax.proofs.prefilter.prefix_index.rows.BitRows.set_each.Goals.{
  else-begins_in,
}
use Rattle.regex_lite_syntax.proofs.prefilter.prefix_index.rows.BitRows.set_each.Goals as goal

pub codes-preserved-then-begins_in_none_of_row :
    goal.codes-preserved-then-begins_in_none_of_row
codes-preserved-then-begins_in_none_of_row c =
    let v = c.codes.invariant in
    let code = c.codes.code in
    let none = c.if-begins_in_none_of_row.ensures refl in
    record {
      set = λ r n inside. v.set r n inside
          ∙ ap (λ column. has c.args.self.now r n || (n == c.args.number && column))
          (sym (no_more_rows (begins_with c.args.starts.now) c.args.base code (code + 16) r
          (omega arith) none.1));
      within = omega (arith, none.0);
      width = v.width;
      all = v.all;
      base = refl;
      number = refl;
      starts = refl;
    }

pub codes-preserved : goal.codes-preserved
codes-preserved c =
    let v = c.codes.invariant in
    let code = c.codes.code in
    let test = begins_with c.args.starts.now in
    elim c.if-begins_in.branch [
      | then-begins_in w ↦ rw w.self-is (record {
        set = λ r n inside. one_more_bit _ _ _ (n == c.args.number) _ _ _ (v.set r n inside)
            (w.set.ensures.set r n (omega (arith, inside, v.width)))
            (one_more_row test c.args.base code r
            (sym c.begins_in.ensures ∙ w.if-begins_in.true));
        within = omega (arith, c.codes-test.true);
        width = w.set.ensures.width ∙ v.width;
        all = w.set.ensures.all ∙ v.all;
        base = refl;
        number = refl;
        starts = refl;
      })
      | else-begins_in w ↦ rw w.self-is (record {
        set = λ r n inside. v.set r n inside
            ∙ ap (λ column. has c.args.self.now r n || (n == c.args.number && column))
            (sym (no_more_rows test c.args.base code (code + 1) r (omega arith)
            (λ k low high. let here : k ≡ code = omega (arith, low, high) in
            ap test here ∙ sym c.begins_in.ensures ∙ w.if-begins_in.false)));
        within = omega (arith, c.codes-test.true);
        width = v.width;
        all = v.all;
        base = refl;
        number = refl;
        starts = refl;
      })
    ]

pub returns-clause-set : goal.returns-clause-set
returns-clause-set c r n inside =
    let v = c.codes.invariant in
    let within = v.within in
    let end : c.codes.code ≡ 129 = omega (arith, within, c.codes-test.false) in
    v.set r n inside
    ∙ ap (λ code. has c.args.self.now r n || (n == c.args.number
    && is_in_column (begins_with c.args.starts.now) c.args.base code r)) end
