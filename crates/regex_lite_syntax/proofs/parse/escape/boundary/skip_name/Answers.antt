use Rattle.regex_lite_syntax.proofs.Common.{◌≡◌, Bool, [], ◌∷◌, drop, IsTrue, sym, refl, subst}
use Rattle.regex_lite_syntax.proofs.Common.{arith, and_parts, drop_all, list_all}
use Rattle.regex_lite_syntax.proofs.Common.{is_boundary_character, Gap, WholeGap, Spaced, Text}
use Rattle.regex_lite_syntax.proofs.Common.{Begins, the}
use Rattle.regex_lite_syntax.proofs.grammar.SpacedLemmas.{boundary_characters_end, brace_past}
use Rattle.regex_lite_syntax.proofs.grammar.SpacedLemmas.{next_spaced, spaced_before, spaced_begins}
use Rattle.regex_lite_syntax.proofs.parse.escape.boundary.skip_name.Goals as goal
use Rattle.regex_lite_syntax.proofs.parse.IndexLemmas.{drop_as}

-- where no letter is left, the brace that closes comes next
brace_begins : (verbose : Bool) (left t u last rest : Text) → left ≡ [] → WholeGap verbose t u
    → Spaced verbose is_boundary_character left t last → Gap verbose last (the "}" ∷ rest)
    → Begins (the "}") u
brace_begins verbose left t u last rest none whole s closes =
    let ended = subst (λ ls. Spaced verbose is_boundary_character ls t last) none s in
    subst (λ v. Begins (the "}") v) (sym (brace_past verbose t u last rest whole ended closes)) refl

pub returns-then-not-is_at-clause-absent : goal.returns-then-not-is_at-clause-absent
returns-then-not-is_at-clause-absent c last rest written closes =
    let left = drop_as c.as_bytes-letter-items.result.now c.loop-letter.letter-index _
    c.loop-letter-test.true c.from.ensures in
    let t = drop c.loop-letter.end c.args.chars.now in
    c.if-not-is_at.ensures.absent refl
    (spaced_begins c.args.verbose _ _ _ t _ last boundary_characters_end
    c.skip_gap-next.ensures.gap
    (subst (λ ls. Spaced c.args.verbose is_boundary_character ls t last) left
    (c.loop-letter.invariant.back last written)))

pub loop-letter-preserved : goal.loop-letter-preserved
loop-letter-preserved c =
    let left = drop_as c.as_bytes-letter-items.result.now c.loop-letter.letter-index _
    c.loop-letter-test.true c.from.ensures in
    let here = c.if-not-is_at.ensures.there refl in
    let whole = c.skip_gap-next.ensures.gap in
    let before = c.loop-letter.invariant in
    let are =
    and_parts _ _ (subst (λ ls. IsTrue (list_all is_boundary_character ls)) left before.letters) in
    let t = drop c.loop-letter.end c.args.chars.now in
    let written = λ (last ls : Text). Spaced c.args.verbose is_boundary_character ls t last in
    record {
      inside = (omega arith, omega (arith, here.0));
      letters = are.1;
      goes = λ last s. before.goes last
          (subst (written last) (sym left)
          (spaced_before c.args.verbose _ _ _ t _ _ last whole here.1 are.0 s));
      back = λ last s.
          (next_spaced c.args.verbose _ _ _ _ t _ _ last boundary_characters_end whole here.1
          (subst (written last) left (before.back last s))).1;
    }

pub returns-else-is_at-clause-absent : goal.returns-else-is_at-clause-absent
returns-else-is_at-clause-absent c last rest written closes =
    let none = drop_all c.loop-letter.letter-index c.as_bytes-letter-items.result.now
    c.loop-letter-test.false in
    c.if-is_at.ensures.absent refl (brace_begins _ _ _ _ last rest none c.skip_gap-close.ensures.gap
    (c.loop-letter.invariant.back last written) closes)
