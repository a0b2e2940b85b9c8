use Rattle.regex_lite_syntax.proofs.Common.{◌++◌, slice_range, sym, refl, ap, ◌∙◌, subst, arith}
use Rattle.regex_lite_syntax.proofs.Common.{both_ways, append-nil, drop_split, Completable}
use Rattle.regex_lite_syntax.proofs.grammar.NameReadingLemmas.{first_of_name, name_begun}
use Rattle.regex_lite_syntax.proofs.grammar.NameReadingLemmas.{name_goes_on, name_read}
use Rattle.regex_lite_syntax.proofs.grammar.NameReadingLemmas.{next_of_name}
use Rattle.regex_lite_syntax.proofs.grammar.NameReadingLemmas.{nothing_left_at_end, range_more}
use Rattle.regex_lite_syntax.proofs.grammar.NewNameLemmas.{NewName, name_completes, name_follows}
use Rattle.regex_lite_syntax.proofs.parse.name.read_name.Goals as goal

pub loop-c-init : goal.loop-c-init
loop-c-init c =
    let here = c.in-Some.ensures in
    let begins = sym c.if-not-may_begin_name.ensures in
    record {
      inside = (omega arith, omega (arith, here.0));
      so_far = name_begun _ _ c.args.at _ here.0 here.1 begins c.in-Some.c-test.1;
      back = λ more rest name written.
          (first_of_name _ _ (ap (λ v. v ++ more) here.1) written).2;
    }

pub returns-then-c-eq62-clause-ok : goal.returns-then-c-eq62-clause-ok
returns-then-c-eq62-clause-ok c =
    name_read _ _ _ c.loop-c.end _ _ (omega arith)
    (omega arith) c.in-Some-char_at.ensures.1 c.if-c-eq62.true c.loop-c.invariant.so_far

pub returns-then-not-may_continue_name-clause-refused :
    goal.returns-then-not-may_continue_name-clause-refused
returns-then-not-may_continue_name-clause-refused c =
    λ more follows (rest, name, written).
    let next = next_of_name _ _ (ap (λ v. v ++ more) c.in-Some-char_at.ensures.1) c.if-c-eq62.false
    (c.loop-c.invariant.back more rest name written) in
    both_ways _ (sym c.if-not-may_continue_name.ensures) next.0

pub loop-c-preserved : goal.loop-c-preserved
loop-c-preserved c =
    let here = c.in-Some-char_at.ensures in
    let before = c.loop-c.invariant in
    record {
      inside = (omega arith, omega (arith, here.0));
      so_far = name_goes_on _ _ _ (range_more _ _ _ _ _ (omega arith) here.0 here.1)
          (sym c.if-not-may_continue_name.ensures) c.if-c-eq62.false before.so_far;
      back = λ more rest name written.
          (next_of_name _ _ (ap (λ v. v ++ more) here.1) c.if-c-eq62.false
          (before.back more rest name written)).1;
    }

pub returns-clause-refused : goal.returns-clause-refused
returns-clause-refused c =
    λ more follows (rest, name, written).
    nothing_left_at_end (ap (λ v. v ++ more) c.in_default.ensures ∙ follows refl)
    (c.loop-c.invariant.back more rest name written)

pub returns-in-None-clause-completes : goal.returns-in-None-clause-completes
returns-in-None-clause-completes c names short =
    subst (λ t. Completable (NewName names) t) (sym c.in-None.ensures) (name_follows names)

pub returns-in-Some-clause-completes : goal.returns-in-Some-clause-completes
returns-in-Some-clause-completes c names short =
    absurd (both_ways _ c.fault_of_start.ensures short)

pub returns-clause-completes : goal.returns-clause-completes
returns-clause-completes c names short =
    let xs = c.args.chars.now in
    let read = slice_range xs c.args.at c.loop-c.end in
    let spelled = drop_split xs c.args.at c.loop-c.end (omega arith)
    ∙ ap (λ u. read ++ u) c.in_default.ensures ∙ append-nil read in
    subst (λ t. Completable (NewName names) t) (sym spelled)
    (name_completes names read c.loop-c.invariant.so_far)
