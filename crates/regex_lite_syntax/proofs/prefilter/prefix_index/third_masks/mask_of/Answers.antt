use Rattle.regex_lite_syntax.proofs.Common.{◌≡◌, ◌%◌, true, sym, ap, ◌∙◌, subst, inl, inr, arith}
use Rattle.regex_lite_syntax.proofs.Common.{cases_lt, begins_with, in_mask}
use Rattle.std.proofs.lemmas.Bool.{both_ways}
use Rattle.regex_lite_syntax.proofs.prefilter.prefix_index.ThirdLemmas.{added, all_in_mask}
use Rattle.regex_lite_syntax.proofs.prefilter.prefix_index.ThirdLemmas.{begins_by_character, kept}
use Rattle.regex_lite_syntax.proofs.prefilter.first_set.StartLemmas.{begins_as_one}
use Rattle.regex_lite_syntax.proofs.prefilter.prefix_index.third_masks.mask_of.Goals as goal
use Rattle.regex_lite_syntax.proofs.prefilter.prefix_index.third_masks.mask_of.Goals.{then-begins_in-2}
use Rattle.regex_lite_syntax.proofs.prefilter.prefix_index.third_masks.mask_of.Goals.{else-begins_in-2}

pub returns-then-starts : goal.returns-then-starts
returns-then-starts c = λ before code may. all_in_mask code

pub loop-code-preserved : goal.loop-code-preserved
loop-code-preserved c =
    let v = c.loop-code.invariant in
    let code = c.loop-code.code in
    let mask = c.loop-code.mask in
    record {
      reported = λ other less begins. elim c.if-begins_in-2.branch [
        | then-begins_in-2 w ↦
            subst (λ m. in_mask m other ≡ true) (sym w.mask-is) (elim (cases_lt other code) [
              | inl low ↦ kept mask code other (v.reported other low begins)
              | inr le ↦
                  let same : other ≡ code = omega (arith, less, le) in
                  added mask code other (ap (λ k. k % 32) same)
            ])
        | else-begins_in-2 w ↦
            subst (λ m. in_mask m other ≡ true) (sym w.mask-is) (elim (cases_lt other code) [
              | inl low ↦ v.reported other low begins
              | inr le ↦
                  let same : other ≡ code = omega (arith, less, le) in
                  absurd (both_ways (begins_with c.args.starts.now code)
                  (sym c.begins_in-in-loop-code.ensures ∙ w.if-begins_in-2.false)
                  (ap (begins_with c.args.starts.now) (sym same) ∙ begins))
            ])
      ];
      same = v.same;
    }

pub returns : goal.returns
returns c = λ before code may.
    let starts = c.args.starts.now in
    let begins =
    begins_by_character starts before code c.if-starts.false
    may in
    elim (cases_lt code 128) [
      | inl low ↦
          c.loop-code.invariant.reported code (omega (arith, low, c.loop-code-test.false)) begins
      | inr le ↦ absurd (both_ways (begins_with starts code)
          (begins_as_one starts code le ∙ sym c.begins_in.ensures ∙ c.if-begins_in.false) begins)
    ]
