use Rattle.regex_lite_syntax.proofs.Common.{◌+◌, drop, sym, refl, ◌∙◌, subst, inl, inr, arith}
use Rattle.regex_lite_syntax.proofs.Common.{WholeGap, EndsOpen, past_dash}
use Rattle.regex_lite_syntax.proofs.ListLemmas.{same_head}
use Rattle.regex_lite_syntax.proofs.parse.IndexLemmas.{drop_char, left_at_end, some_at}
use Rattle.regex_lite_syntax.proofs.parse.bracket.ClassItemLemmas.{no_dash, no_end, closed_by_other}
use Rattle.regex_lite_syntax.proofs.parse.bracket.ClassItemLemmas.{closed_past_dash}
use Rattle.regex_lite_syntax.proofs.parse.bracket.item.find_range_end.Goals as goal
use Rattle.regex_lite_syntax.proofs.parse.bracket.item.find_range_end.Goals.{Else-last-chars}

pub returns-then-not-is_at-clause-ok : goal.returns-then-not-is_at-clause-ok
returns-then-not-is_at-clause-ok c last follows =
    no_dash _ _ _ last c.skip_gap-dash.ensures.gap (c.if-not-is_at.ensures.absent refl) follows

pub returns-then-last-chars-clause-refused : goal.returns-then-last-chars-clause-refused
returns-then-last-chars-clause-refused c =
    let xs = c.args.chars.now in
    let past = drop (c.skip_gap-dash.result + 1) xs in
    let dashed = (c.if-not-is_at.ensures.there refl).1 in
    let ends = past_dash past
    (subst (λ u. WholeGap c.args.verbose (drop c.args.at xs) u) dashed c.skip_gap-dash.ensures.gap)
    (subst (λ u. WholeGap c.args.verbose past u)
    (left_at_end xs _ c.if-last-chars.true) c.skip_gap-last.ensures.gap) in
    (refl, ends)

pub returns-in-93-clause-ok : goal.returns-in-93-clause-ok
returns-in-93-clause-ok c last follows =
    let xs = c.args.chars.now in
    let dashed = (c.if-not-is_at.ensures.there refl).1 in
    let here = drop_char xs c.skip_gap-last.result c.index-chars-last.result
    (omega (arith, c.if-last-chars.false, c.skip_gap-last.ensures.inside)) c.index-chars-last.is in
    no_end _ _ _ _ last
    (subst (λ u. WholeGap c.args.verbose (drop c.args.at xs) u) dashed c.skip_gap-dash.ensures.gap)
    c.skip_gap-last.ensures.gap (λ d rest e. elim c.in-93.is [
      | inl dash ↦ inr (same_head (sym e ∙ here) ∙ dash)
      | inr bracket ↦ inl (same_head (sym e ∙ here) ∙ bracket)
    ]) follows

pub returns-then-not-is_at-clause-closed : goal.returns-then-not-is_at-clause-closed
returns-then-not-is_at-clause-closed c =
    closed_by_other c.args.verbose _ _ c.skip_gap-dash.ensures.gap
    (some_at c.args.chars.now c.skip_gap-dash.result
    (omega (arith, c.if-dash-chars.false, c.skip_gap-dash.ensures.inside)))
    (c.if-not-is_at.ensures.absent refl)

-- past a dash something is left
closed_at : (c : Else-last-chars) → EndsOpen c.args.verbose (drop c.args.at c.args.chars.now) → ⊥
closed_at c =
    let xs = c.args.chars.now in
    let dashed = (c.if-not-is_at.ensures.there refl).1 in
    closed_past_dash c.args.verbose (drop c.args.at xs) _ _
    (subst (λ u. WholeGap c.args.verbose (drop c.args.at xs) u) dashed c.skip_gap-dash.ensures.gap)
    c.skip_gap-last.ensures.gap (some_at xs c.skip_gap-last.result
    (omega (arith, c.if-last-chars.false, c.skip_gap-last.ensures.inside)))

pub returns-in-93-clause-closed : goal.returns-in-93-clause-closed
returns-in-93-clause-closed c =
    closed_at (goal.at.returns-in-93-clause-closed c).Else-last-chars

pub returns-in_default-clause-closed : goal.returns-in_default-clause-closed
returns-in_default-clause-closed c =
    closed_at (goal.at.returns-in_default-clause-closed c).Else-last-chars
