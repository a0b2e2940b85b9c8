use Rattle.regex_lite_syntax.proofs.Common.{◌≡◌, ◌+◌, drop, sym, ap, ◌∙◌, subst, arith, Begins, the}
use Rattle.regex_lite_syntax.proofs.ListLemmas.{same_tail}
use Rattle.regex_lite_syntax.proofs.grammar.ClassLemmas.{begins}
use Rattle.regex_lite_syntax.proofs.grammar.LongerOpeningLemmas.{none_opened, no_question, no_less}
use Rattle.regex_lite_syntax.proofs.parse.name.skip_name_opening.Goals as goal
use Rattle.regex_lite_syntax.proofs.parse.name.skip_name_opening.Goals.{
  else-is_at-2-via-then-is_at-2+else-is_at-3,
  else-is_at-2-via-else-is_at-2,
}

pub returns-then-not-is_at-clause-absent : goal.returns-then-not-is_at-clause-absent
returns-then-not-is_at-clause-absent c =
    none_opened _ (no_question _ (c.is_at.ensures.absent c.if-not-is_at.true))

pub returns-clause-absent : goal.returns-clause-absent
returns-clause-absent c =
    let here = (c.is_at.ensures.there c.if-not-is_at.false).1 in
    let none = c.is_at-2.ensures.absent c.if-is_at.false in
    none_opened _ (λ past. no_less _ _ past here none (elim c.else-is_at-2.branch [
      | else-is_at-2-via-then-is_at-2+else-is_at-3 w ↦ λ v e less.
          let is_p = (c.is_at-3.ensures.there w.if-is_at-2.true).1 in
          let next : c.args.at + 1 + 1 ≡ c.args.at + 2 = omega arith in
          let there = ap (λ i. drop i c.args.chars.now) next in
          w.is_at-then-is_at-2.ensures.absent w.if-is_at-3.false
          (subst (λ u. Begins (the "<") u) (same_tail (sym e ∙ is_p) ∙ there) less)
      | else-is_at-2-via-else-is_at-2 w ↦ λ v e less.
          c.is_at-3.ensures.absent w.if-is_at-2.false (begins (the "P") _ v e)
    ]))
