use Rattle.regex_lite_syntax.proofs.Common.{◌≡◌, ◌+◌, false, [], ◌∷◌, ◌++◌, drop, slice_range, ap}
use Rattle.regex_lite_syntax.proofs.Common.{◌∙◌, arith, with_flags, EndedFlags, LetterRun, Text}
use Rattle.regex_lite_syntax.proofs.Common.{the, Flags}
use Rattle.regex_lite_syntax.proofs.ExitLemmas.{at_exit}
use Rattle.regex_lite_syntax.proofs.parse.letters.SliceLemmas.{slice_length}
use Rattle.regex_lite_syntax.proofs.parse.letters.FlagRunLemmas.{run_longer}
use Rattle.regex_lite_syntax.proofs.parse.letters.WholeFlagLemmas.{Cleared, first_run, second_run}
use Rattle.regex_lite_syntax.proofs.parse.letters.WholeFlagLemmas.{no_second_dash, some_second}
use Rattle.regex_lite_syntax.proofs.parse.letters.WholeFlagLemmas.{flags_set, flags_cleared}
use Rattle.regex_lite_syntax.proofs.parse.letters.CompletedFlagLemmas.{set_completes}
use Rattle.regex_lite_syntax.proofs.parse.letters.CompletedFlagLemmas.{dash_completes, none_clears}
use Rattle.regex_lite_syntax.proofs.parse.letters.read_flags.Goals as goal

pub returns-in_err-middle-clause-refused : goal.returns-in_err-middle-clause-refused
returns-in_err-middle-clause-refused c =
    at_exit _ _ c.from_residual.ensures.1
    (λ more follows flags. c.in_err-middle.ensures.refused more follows
    (first_run c.args.old ((drop c.args.at c.args.chars.now) ++ more) flags.0 flags.1 flags.2))

-- where a dash ends the first run, flags of a longer text go on with another
second_longer : (more : Text) (old : Flags) (on t u past rest : Text) (new : Flags)
    → LetterRun [] on t u → u ≡ the "-" ∷ past → EndedFlags old (t ++ more) rest new
    → Cleared on (past ++ more) rest
second_longer more old on t u past rest new run dashed flags =
    second_run old on (t ++ more) (u ++ more) (past ++ more) rest new
    (run_longer more [] on t u run) (ap (λ v. v ++ more) dashed) flags

pub returns-then-not-is_at-clause-ok : goal.returns-then-not-is_at-clause-ok
returns-then-not-is_at-clause-ok c =
    let run = c.in_ok-middle.ensures in
    flags_set c.args.old _ _ _ c.in_ok-middle.set run.ok
    (c.is_at.ensures.absent c.if-not-is_at.true) run.flags

pub returns-in_err-end-clause-refused : goal.returns-in_err-end-clause-refused
returns-in_err-end-clause-refused c =
    let dashed = (c.is_at.ensures.there c.if-not-is_at.false).1 in
    at_exit _ _ c.from_residual-in_err-end.ensures.1 (λ more follows flags.
    let cleared = second_longer more _ _ _ _ _ _ _ c.in_ok-middle.ensures.ok dashed flags.2 in
    c.in_err-end.ensures.refused more follows (cleared.off, flags.0, cleared.run))

pub returns-then-is_at-clause-refused : goal.returns-then-is_at-clause-refused
returns-then-is_at-clause-refused c =
    let dashed = (c.is_at.ensures.there c.if-not-is_at.false).1 in
    let dashed_again = (c.is_at-2.ensures.there c.if-is_at.true).1 in
    λ more follows flags.
    let cleared = second_longer more _ _ _ _ _ _ _ c.in_ok-middle.ensures.ok dashed flags.2 in
    no_second_dash _ _ _ _ _ flags.0 (run_longer more _ _ _ _ c.in_ok-end.ensures.ok)
    (ap (λ v. v ++ more) dashed_again) flags.2.ends cleared

pub returns-then-end-begin-clause-refused : goal.returns-then-end-begin-clause-refused
returns-then-end-begin-clause-refused c =
    let dashed = (c.is_at.ensures.there c.if-not-is_at.false).1 in
    let none = slice_length c.args.chars.now (c.in_ok-middle.middle + 1) c.in_ok-end.end
    (omega (arith, c.in_ok-end.ensures.inside)) in
    λ more follows flags.
    let cleared = second_longer more _ _ _ _ _ _ _ c.in_ok-middle.ensures.ok dashed flags.2 in
    some_second _ _ _ _ flags.0 (run_longer more _ _ _ _ c.in_ok-end.ensures.ok)
    (omega (arith, none)) cleared

pub returns-clause-ok : goal.returns-clause-ok
returns-clause-ok c =
    let xs = c.args.chars.now in
    let run = c.in_ok-middle.ensures in
    let run_off = c.in_ok-end.ensures in
    let dashed = (c.is_at.ensures.there c.if-not-is_at.false).1 in
    let length_is =
    slice_length xs (c.in_ok-middle.middle + 1) c.in_ok-end.end (omega (arith, run_off.inside)) in
    let flags = run_off.flags
    ∙ ap (with_flags false (slice_range xs (c.in_ok-middle.middle + 1) c.in_ok-end.end))
    run.flags in
    flags_cleared c.args.old _ _ _ _ _ _ c.in_ok-end.new run.ok dashed run_off.ok
    (omega (arith, length_is, run_off.inside)) (c.is_at-2.ensures.absent c.if-is_at.false) flags

pub returns-in_err-middle-clause-completes : goal.returns-in_err-middle-clause-completes
returns-in_err-middle-clause-completes c =
    at_exit _ _ c.from_residual.ensures.1 (λ short.
    let ended = c.in_err-middle.ensures.at_end short in
    set_completes c.args.old _ ended.0 ended.1)

pub returns-then-is_out_of_letters-clause-refused :
    goal.returns-then-is_out_of_letters-clause-refused
returns-then-is_out_of_letters-clause-refused c =
    let dashed = (c.is_at.ensures.there c.if-not-is_at.false).1 in
    let every = (c.is_out_of_letters.ensures.none_left c.if-is_out_of_letters.true).1 in
    λ more follows flags. none_clears _ _ flags.0 every
    (second_longer more _ _ _ _ _ _ _ c.in_ok-middle.ensures.ok dashed flags.2)

pub returns-in_err-end-clause-completes : goal.returns-in_err-end-clause-completes
returns-in_err-end-clause-completes c =
    let dashed = (c.is_at.ensures.there c.if-not-is_at.false).1 in
    let some_left = c.is_out_of_letters.ensures.some_left c.if-is_out_of_letters.false in
    at_exit _ _ c.from_residual-in_err-end.ensures.1 (λ short.
    let ended = c.in_err-end.ensures.at_end short in
    dash_completes c.args.old _ _ _ _ c.in_ok-middle.ensures.ok dashed ended.0 ended.1 some_left)
