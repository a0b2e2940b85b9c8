use Rattle.regex_lite_syntax.proofs.Common.{◌≡◌, ℕ, ◌+◌, Bool, false, ◌≢◌, [], ◌∷◌, ◌++◌, drop, sym}
use Rattle.regex_lite_syntax.proofs.Common.{refl, ap, ◌∙◌, subst, inl, inr, arith}
use Rattle.regex_lite_syntax.proofs.Common.{is_boundary_character, boundary_named, BoundaryName}
use Rattle.regex_lite_syntax.proofs.Common.{Gap, WholeGap, Spaced, Text, the, Look}
use Rattle.regex_lite_syntax.proofs.ListLemmas.{same_head, same_tail}
use Rattle.regex_lite_syntax.proofs.grammar.GapLemmas.{gap_once}
use Rattle.regex_lite_syntax.proofs.grammar.LongerGapLemmas.{gap_before, spaced_longer}
use Rattle.regex_lite_syntax.proofs.grammar.LongerGapLemmas.{whole_before}
use Rattle.regex_lite_syntax.proofs.grammar.SpacedLemmas.{boundary_characters_end, brace_or_other}
use Rattle.regex_lite_syntax.proofs.grammar.SpacedLemmas.{brace_past, not_spaced, spaced_more}
use Rattle.regex_lite_syntax.proofs.grammar.SpacedLemmas.{spaced_to_brace_once}
use Rattle.regex_lite_syntax.proofs.grammar.LongerNumberLemmas.{of_text}
use Rattle.regex_lite_syntax.proofs.parse.EndLemmas.{at_end_or_never}
use Rattle.regex_lite_syntax.proofs.parse.escape.NameEndLemmas.{ends_in_its_name}
use Rattle.regex_lite_syntax.proofs.parse.escape.boundary.fault_of_name.Goals as goal

-- where letters lead to another character than the brace that closes, no name stands
no_letters : (verbose : Bool) (ls ds t last u last' rest : Text) (c : ℕ)
    → Spaced verbose is_boundary_character ls t last → WholeGap verbose last (c ∷ u)
    → is_boundary_character c ≡ false → c ≢ the "}"
    → Spaced verbose is_boundary_character ds t last' → Gap verbose last' (the "}" ∷ rest) → ⊥
no_letters verbose [] [] t last u last' rest c a whole other no_brace b closes =
    no_brace (same_head (brace_past verbose last (c ∷ u) last' rest whole (sym a ∙ b) closes))
no_letters verbose [] (d ∷ ds) t last u last' rest c a whole other no_brace b closes =
    not_spaced verbose is_boundary_character d ds last (c ∷ u) last' boundary_characters_end whole
    other (subst (λ v. Spaced verbose is_boundary_character (d ∷ ds) v last') a b)
no_letters verbose (l ∷ ls) [] t last u last' rest c a whole other no_brace b closes =
    brace_or_other verbose is_boundary_character t a.0 rest l boundary_characters_end refl a.1 a.2
    (subst (λ v. Gap verbose v (the "}" ∷ rest)) (sym b) closes)
no_letters verbose (l ∷ ls) (d ∷ ds) t last u last' rest c a whole other no_brace b closes =
    let first = gap_once verbose t _ _ a.1 b.1 (boundary_characters_end l a.0 a.2)
    (boundary_characters_end d b.0 b.2) in
    no_letters verbose ls ds a.0 last u last' rest c a.3 whole other no_brace
    (subst (λ v. Spaced verbose is_boundary_character ds v last') (sym (same_tail first)) b.3)
    closes

-- where they lead to that brace, they are the letters of a name of each longer text
closed_name : (verbose : Bool) (ls t last past more rest : Text) (look : Look)
    → Spaced verbose is_boundary_character ls t last → Gap verbose last (the "}" ∷ past)
    → BoundaryName verbose (t ++ more) rest look → BoundaryName verbose t past look
closed_name verbose ls t last past more rest look written closes b =
    let same = spaced_to_brace_once verbose is_boundary_character ls b.name (t ++ more)
    (last ++ more) b.last (past ++ more) rest boundary_characters_end refl
    (spaced_longer more verbose is_boundary_character ls t last written)
    (gap_before more verbose last past (the "}") closes) b.written b.closes in
    record {
      name = ls;
      last = last;
      written = written;
      closes = closes;
      named = ap boundary_named same.0 ∙ b.named;
    }

pub returns-then-c-eq125-clause-stands : goal.returns-then-c-eq125-clause-stands
returns-then-c-eq125-clause-stands c more rest look follows b =
    let xs = c.args.chars.now in
    let passed = c.loop-c.invariant.passed in
    let past = drop (c.skip_gap-next.result + 1) xs in
    let here = c.in-Some.ensures.1 ∙ ap (λ d. d ∷ past) c.if-c-eq125.true in
    let closes =
    subst (λ u. Gap c.args.verbose (drop c.loop-c.end xs) u) here c.skip_gap-next.ensures.gap.0 in
    (past, closed_name _ passed.0 _ _ _ more rest look passed.1 closes b)

pub returns-then-not-is_name_char-clause-stands : goal.returns-then-not-is_name_char-clause-stands
returns-then-not-is_name_char-clause-stands c more rest look follows b =
    let passed = c.loop-c.invariant.passed in
    absurd (no_letters _ passed.0 b.name _ _ _ b.last rest _
    (spaced_longer more _ _ passed.0 _ _ passed.1)
    (whole_before more _ _ c.skip_gap-next.ensures.gap c.in-Some.ensures.1)
    (sym c.is_name_char.ensures ∙ c.if-not-is_name_char.true) c.if-c-eq125.false b.written b.closes)

pub loop-c-preserved : goal.loop-c-preserved
loop-c-preserved c =
    let passed = c.loop-c.invariant.passed in
    record {
      inside = (omega arith, omega (arith, c.in-Some.ensures.0));
      passed = (
        _,
        spaced_more _ _ passed.0 _ _ _ _ passed.1
            (subst (λ u. Gap c.args.verbose (drop c.loop-c.end c.args.chars.now) u)
            c.in-Some.ensures.1 c.skip_gap-next.ensures.gap.0)
            (sym c.is_name_char.ensures ∙ c.if-not-is_name_char.false),
      );
    }

pub returns-in_default-clause-completes : goal.returns-in_default-clause-completes
returns-in_default-clause-completes c short =
    c.ends_in_any_name-goes_on.ensures.completes (sym c.at_end.ensures ∙ short)

-- where nothing could complete a name, none comes to stand
pub returns-in_default-clause-stands : goal.returns-in_default-clause-stands
returns-in_default-clause-stands c more rest look follows b =
    let passed = c.loop-c.invariant.passed in
    let ends = subst (λ u. Gap c.args.verbose (drop c.loop-c.end c.args.chars.now) u)
    c.in_default.ensures c.skip_gap-next.ensures.gap.0 in
    elim (at_end_or_never _ _ more c.at_end.ensures follows) [
      | inl nothing ↦
          (rest, of_text (λ t. BoundaryName c.args.verbose t rest look) _ more nothing b)
      | inr never ↦
          absurd (c.ends_in_any_name-goes_on.ensures.absent never b.name look b.named
          (ends_in_its_name _ passed.0 _ _ more rest look passed.1 ends b))
    ]
