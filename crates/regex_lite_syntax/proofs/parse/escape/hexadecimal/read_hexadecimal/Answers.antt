use Rattle.regex_lite_syntax.proofs.Common.{ℕ, ◌≤◌, Bool, [], drop, refl, subst, arith, IfOk-weaker}
use Rattle.regex_lite_syntax.proofs.Common.{FixedDigits, BracedDigits, Hexadecimal, fixed, Gap}
use Rattle.regex_lite_syntax.proofs.Common.{Text}
use Rattle.regex_lite_syntax.proofs.grammar.LongerGapLemmas.{whole_before, whole_to_end}
use Rattle.regex_lite_syntax.proofs.parse.escape.DigitLemmas.{no_fixed}
use Rattle.regex_lite_syntax.proofs.parse.escape.CompletedDigitLemmas.{number_completable}
use Rattle.regex_lite_syntax.proofs.parse.CompletionLemmas.{completes_of}
use Rattle.regex_lite_syntax.proofs.grammar.EscapeLemmas.{from_braces, in_braces, without_braces}
use Rattle.regex_lite_syntax.proofs.parse.DenialLemmas.{none_of_part}
use Rattle.regex_lite_syntax.proofs.parse.escape.hexadecimal.read_hexadecimal.Goals as goal

-- the readings that are asked for
abbrev Number : (verbose : Bool) → (n least : ℕ) → (t rest : Text) → Type 0
Number verbose n least t rest = (c : ℕ) × Hexadecimal verbose n t rest c × (least ≤ c)

abbrev Fixed : (verbose : Bool) → (n least : ℕ) → (t rest : Text) → Type 0
Fixed verbose n least t rest = (c : ℕ) × FixedDigits verbose n t rest c × (least ≤ c)

abbrev Braced : (verbose : Bool) → (least : ℕ) → (t rest : Text) → Type 0
Braced verbose least t rest = (c : ℕ) × BracedDigits verbose t rest c × (least ≤ c)

-- and up to some place
abbrev AnyNumber : (verbose : Bool) → (n least : ℕ) → Text → Type 0
AnyNumber verbose n least t = (rest : Text) × (c : ℕ) × Hexadecimal verbose n t rest c × (least ≤ c)

abbrev AnyFixed : (verbose : Bool) → (n least : ℕ) → Text → Type 0
AnyFixed verbose n least t = (rest : Text) × (c : ℕ) × FixedDigits verbose n t rest c × (least ≤ c)

abbrev AnyBraced : (verbose : Bool) → (least : ℕ) → Text → Type 0
AnyBraced verbose least t = (rest : Text) × (c : ℕ) × BracedDigits verbose t rest c × (least ≤ c)

pub returns-in-None-clause-refused : goal.returns-in-None-clause-refused
returns-in-None-clause-refused c more follows (rest, d, h, far) =
    let whole =
    whole_to_end more _ _ c.skip_gap-first.ensures.gap c.in-None.ensures (follows refl) in
    no_fixed [] whole tt c.requires.some (without_braces _ _ _ _ rest d whole (λ begins. begins) h)

pub returns-in-None-clause-completes : goal.returns-in-None-clause-completes
returns-in-None-clause-completes c short =
    number_completable c.args.verbose c.args.digits c.args.least _ (omega arith)
    (subst (λ u. Gap c.args.verbose (drop c.args.at c.args.chars.now) u) c.in-None.ensures
    c.skip_gap-first.ensures.gap.0)

pub returns-in-Some-eq123-clause-ok : goal.returns-in-Some-eq123-clause-ok
returns-in-Some-eq123-clause-ok c =
    let brace = c.in-Some-eq123 in
    IfOk-weaker _ _ _ (λ r b.
    from_braces _ _ _ _ _ _ _ _ c.skip_gap-first.ensures.gap brace.ensures.1 brace.field-0-test b)
    c.read_braced.ensures.ok

pub returns-in-Some-eq123-clause-refused : goal.returns-in-Some-eq123-clause-refused
returns-in-Some-eq123-clause-refused c =
    let brace = c.in-Some-eq123 in
    none_of_part _ (AnyNumber c.args.verbose c.args.digits c.args.least)
    (AnyBraced c.args.verbose c.args.least) _ _ (λ more (rest, d, h, far). (
      rest,
      d,
      in_braces _ _ _ _ _ rest d _ c.requires.some
          (whole_before more _ _ c.skip_gap-first.ensures.gap brace.ensures.1) refl
          brace.field-0-test h,
      far,
    )) c.read_braced.ensures.refused

pub returns-in-Some-eq123-clause-completes : goal.returns-in-Some-eq123-clause-completes
returns-in-Some-eq123-clause-completes c =
    let brace = c.in-Some-eq123 in
    completes_of _ (Braced c.args.verbose c.args.least)
    (Number c.args.verbose c.args.digits c.args.least) _ _ (λ more rest (d, b, far). (
      d,
      from_braces _ _ _ _ _ rest d _
          (whole_before more _ _ c.skip_gap-first.ensures.gap brace.ensures.1) refl
          brace.field-0-test b,
      far,
    )) c.read_braced.ensures.completes

pub returns-in-Some-clause-refused : goal.returns-in-Some-clause-refused
returns-in-Some-clause-refused c =
    none_of_part _ (AnyNumber c.args.verbose c.args.digits c.args.least)
    (AnyFixed c.args.verbose c.args.digits c.args.least) _ _ (λ more (rest, d, h, far). (
      rest,
      d,
      without_braces _ _ _ _ rest d
          (whole_before more _ _ c.skip_gap-first.ensures.gap c.in-Some.ensures.1)
          c.in-Some.field-0-test.1 h,
      far,
    )) c.read_fixed.ensures.refused

pub returns-in-Some-clause-completes : goal.returns-in-Some-clause-completes
returns-in-Some-clause-completes c =
    completes_of _ (Fixed c.args.verbose c.args.digits c.args.least)
    (Number c.args.verbose c.args.digits c.args.least) _ _
    (λ more rest (d, f, far). (d, fixed f, far)) c.read_fixed.ensures.completes
