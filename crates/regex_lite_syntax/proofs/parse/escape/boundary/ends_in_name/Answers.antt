use Rattle.regex_lite_syntax.proofs.Common.{drop, IsTrue, sym, refl, subst, arith, and_parts}
use Rattle.regex_lite_syntax.proofs.Common.{eqb-false, eqb-true, drop_all, list_all}
use Rattle.regex_lite_syntax.proofs.Common.{is_boundary_character, EndsInName, Text}
use Rattle.regex_lite_syntax.proofs.grammar.GapLemmas.{gap_to_end}
use Rattle.regex_lite_syntax.proofs.parse.IndexLemmas.{some_at, gap_at_end, drop_as}
use Rattle.regex_lite_syntax.proofs.parse.escape.NameEndLemmas.{ends_at_start, ends_past_all}
use Rattle.regex_lite_syntax.proofs.parse.escape.NameEndLemmas.{ends_after, ends_before}
use Rattle.regex_lite_syntax.proofs.parse.escape.NameEndLemmas.{ends_elsewhere}
use Rattle.regex_lite_syntax.proofs.parse.escape.boundary.ends_in_name.Goals as goal

pub returns-then-not-is_at-clause-there : goal.returns-then-not-is_at-clause-there
returns-then-not-is_at-clause-there c at_end =
    c.loop-letter.invariant.goes (ends_at_start _ _ _
    (gap_at_end _ _ _ _ (eqb-true _ _ at_end) c.skip_gap-next.ensures.gap))

pub returns-then-not-is_at-clause-absent : goal.returns-then-not-is_at-clause-absent
returns-then-not-is_at-clause-absent c goes_on e =
    let left = drop_as c.as_bytes-letter-items.result.now c.loop-letter.letter-index _
    c.loop-letter-test.true c.from.ensures in
    let inside = λ (ls : Text).
    EndsInName c.args.verbose ls (drop c.loop-letter.end c.args.chars.now) in
    ends_elsewhere _ _ _ _ _ c.skip_gap-next.ensures.gap
    (some_at c.args.chars.now c.skip_gap-next.result (omega (arith, eqb-false _ _ goes_on)))
    (c.if-not-is_at.ensures.absent refl)
    (subst inside left (c.loop-letter.invariant.back e))

pub loop-letter-preserved : goal.loop-letter-preserved
loop-letter-preserved c =
    let left = drop_as c.as_bytes-letter-items.result.now c.loop-letter.letter-index _
    c.loop-letter-test.true c.from.ensures in
    let inside = λ (ls : Text).
    EndsInName c.args.verbose ls (drop c.loop-letter.end c.args.chars.now) in
    let here = c.if-not-is_at.ensures.there refl in
    let whole = c.skip_gap-next.ensures.gap in
    let before = c.loop-letter.invariant in
    let are =
    and_parts _ _ (subst (λ ls. IsTrue (list_all is_boundary_character ls)) left before.letters) in
    record {
      inside = (omega arith, omega (arith, here.0));
      letters = are.1;
      goes = λ e.
          before.goes (subst inside (sym left) (ends_before _ _ _ _ _ _ whole here.1 are.0 e));
      back = λ e. ends_after _ _ _ _ _ _ whole here.1 (subst inside left (before.back e));
    }

pub returns-clause-there : goal.returns-clause-there
returns-clause-there c at_end =
    c.loop-letter.invariant.goes
    (ends_at_start _ _ _ (gap_at_end _ _ _ _ (eqb-true _ _ at_end) c.skip_gap.ensures.gap))

pub returns-clause-absent : goal.returns-clause-absent
returns-clause-absent c goes_on e =
    let none = drop_all c.loop-letter.letter-index c.as_bytes-letter-items.result.now
    c.loop-letter-test.false in
    some_at c.args.chars.now c.skip_gap.result (omega (arith, eqb-false _ _ goes_on))
    (gap_to_end _ _ _ c.skip_gap.ensures.gap
    (ends_past_all _ _ _ none (c.loop-letter.invariant.back e)))
