use Rattle.regex_lite_syntax.proofs.Common.{◌≡◌, true, ◌||◌, ◌++◌, IsTrue, slice_range, sym, refl}
use Rattle.regex_lite_syntax.proofs.Common.{ap, ◌∙◌, subst, arith, or_left, or_right, drop_all}
use Rattle.regex_lite_syntax.proofs.Common.{drop_split, AllPass, is_one_of, is_flag_letter}
use Rattle.regex_lite_syntax.proofs.Common.{with_flags, all_differ, EndsRun, LetterRun, Text}
use Rattle.std.proofs.lemmas.Result.{err_from_is_err_and}
use Rattle.regex_lite_syntax.specs.Grammar.FlagLetters.{with_flag}
use Rattle.regex_lite_syntax.proofs.grammar.WordLemmas.{pass_push, slice_more}
use Rattle.regex_lite_syntax.proofs.parse.IndexLemmas.{drop_char}
use Rattle.regex_lite_syntax.proofs.parse.DenialLemmas.{none_at_end}
use Rattle.regex_lite_syntax.specs.declared.error.syntax.SyntaxFault.TheVariants.{CutShort}
use Rattle.regex_lite_syntax.specs.declared.error.unexpected_eof.UnexpectedEof.TheVariants.{Flag}
use Rattle.regex_lite_syntax.proofs.parse.letters.SliceLemmas.{spelled_longer}
use Rattle.regex_lite_syntax.proofs.parse.letters.FlagRunLemmas.{with_flags_more, differ_more}
use Rattle.regex_lite_syntax.proofs.parse.letters.FlagRunLemmas.{no_run_end, no_run_other}
use Rattle.regex_lite_syntax.proofs.parse.letters.FlagRunLemmas.{no_run_twice}
use Rattle.regex_lite_syntax.proofs.parse.letters.read_letters.Goals as goal
use Rattle.regex_lite_syntax.proofs.parse.letters.read_letters.Goals.{
  then-contains-via-then-contains,
  then-contains-via-else-contains+then-contains-2,
}

pub loop-end-preserved : goal.loop-end-preserved
loop-end-preserved c =
    let xs = c.args.chars.now in
    let before = c.args.before.now in
    let letter = c.index-chars-end.result in
    let read = slice_range xs c.args.at c.loop-end.end in
    let known = c.loop-end.invariant in
    let longer = slice_more xs c.args.at c.loop-end.end letter (omega arith)
    (omega arith) c.index-chars-end.is in
    let none = sym c.contains.ensures.value ∙ c.if-contains.false in
    let none_read = sym c.contains-else-contains.ensures.value ∙ c.if-contains-2.false in
    let flags = c.in_ok-flags.ensures.ok.1 ∙ ap (with_flag c.args.set letter) known.flags in
    record {
      all = subst (λ w. AllPass is_flag_letter w) (sym longer)
          (pass_push is_flag_letter read letter known.all c.in_ok-flags.ensures.ok.0);
      differ = subst (λ w. IsTrue (all_differ (before ++ w))) (sym longer)
          (differ_more before read letter known.differ none none_read);
      flags = flags ∙ sym (with_flags_more c.args.set read letter c.args.old)
          ∙ ap (λ w. with_flags c.args.set w c.args.old) (sym longer);
    }

pub returns-then-ends_letters-clause-ok : goal.returns-then-ends_letters-clause-ok
returns-then-ends_letters-clause-ok c =
    let xs = c.args.chars.now in
    let end = c.loop-end.end in
    let here = drop_char xs end _ (omega arith) c.index-chars-end.is in
    record {
      written = drop_split xs c.args.at end (omega arith);
      all = c.loop-end.invariant.all;
      differ = c.loop-end.invariant.differ;
      ends =
          subst (λ u. EndsRun u) (sym here) (sym c.ends_letters.ensures ∙ c.if-ends_letters.true);
    }

pub returns-in_err-flags-clause-refused : goal.returns-in_err-flags-clause-refused
returns-in_err-flags-clause-refused c =
    let xs = c.args.chars.now in
    let end = c.loop-end.end in
    let read = slice_range xs c.args.at end in
    let here = drop_char xs end _ (omega arith) c.index-chars-end.is in
    let written = drop_split xs c.args.at end (omega arith) in
    rw (err_from_is_err_and c.from_residual.result c.from_residual.ensures.1).1
    (λ more follows run. no_run_other c.args.before.now read run.0 _ _ run.1 _ _
    (spelled_longer more _ _ _ written) c.loop-end.invariant.all (ap (λ v. v ++ more) here)
    c.in_err-flags.ensures.refused.1 (sym c.ends_letters.ensures ∙ c.if-ends_letters.false) run.2)

pub returns-then-contains-clause-refused : goal.returns-then-contains-clause-refused
returns-then-contains-clause-refused c =
    let xs = c.args.chars.now in
    let before = c.args.before.now in
    let end = c.loop-end.end in
    let letter = c.index-chars-end.result in
    let read = slice_range xs c.args.at end in
    let here = drop_char xs end _ (omega arith) c.index-chars-end.is in
    let written = drop_split xs c.args.at end (omega arith) in
    let twice : (is_one_of before letter || is_one_of read letter) ≡ true =
    elim c.then-contains.branch [
      | then-contains-via-then-contains w ↦
          or_left _ _ (sym c.contains.ensures.value ∙ w.if-contains.true)
      | then-contains-via-else-contains+then-contains-2 w ↦
          or_right _ _ (sym w.contains-else-contains.ensures.value ∙ w.if-contains-2.true)
    ] in
    λ more follows run.
    no_run_twice before read run.0 _ _ run.1 _ _ (spelled_longer more _ _ _ written)
    c.loop-end.invariant.all (ap (λ v. v ++ more) here) c.in_ok-flags.ensures.ok.0 twice run.2

pub returns-clause-refused : goal.returns-clause-refused
returns-clause-refused c =
    let xs = c.args.chars.now in
    let before = c.args.before.now in
    let end = c.loop-end.end in
    let read = slice_range xs c.args.at end in
    let none = drop_all end xs (omega arith) in
    let written = drop_split xs c.args.at end (omega arith) in
    none_at_end (CutShort Flag)
    (λ t. (letters : Text) × (rest : Text) × LetterRun before letters t rest) _ refl
    (λ run. no_run_end before read run.0 _ _ run.1 written c.loop-end.invariant.all none run.2)
