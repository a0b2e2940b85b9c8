use Rattle.regex_lite_syntax.proofs.Common.{◌≡◌, true, false, drop, Contains, sym, subst, arith}
use Rattle.regex_lite_syntax.proofs.Common.{NameWritten, NameOpening, Named, Text, text_of_name}
use Rattle.regex_lite_syntax.specs.declared.error.syntax.SyntaxFault.TheVariants.{
  DuplicateCaptureName,
}
use Rattle.regex_lite_syntax.proofs.ExitLemmas.{at_exit}
use Rattle.regex_lite_syntax.proofs.parse.DenialLemmas.{number_refuses}
use Rattle.regex_lite_syntax.proofs.grammar.NameOpeningLemmas.{opening_question}
use Rattle.regex_lite_syntax.proofs.grammar.NewNameLemmas.{named_completes}
use Rattle.regex_lite_syntax.proofs.machine.CompletedHeadLemmas.{reads_on_name}
use Rattle.regex_lite_syntax.proofs.machine.ReadHeadLemmas.{reads_named, begins_named}
use Rattle.regex_lite_syntax.proofs.machine.ReadHeadLemmas.{reads_no_name, reads_no_second}
use Rattle.regex_lite_syntax.proofs.parse.Parser.read_named_head.Goals as goal

pub returns-in_err-end-clause-refused : goal.returns-in_err-end-clause-refused
returns-in_err-end-clause-refused c =
    at_exit _ _ c.from_residual.ensures.1
    (reads_no_name c.in_err-end.field-0.0 c.args.self.now _ _ _ _ c.requires.begins c.requires.gap
    c.requires.opens c.in_err-end.ensures.refused)

pub returns-in_err-end-clause-completes : goal.returns-in_err-end-clause-completes
returns-in_err-end-clause-completes c =
    let p = c.args.self.now in
    at_exit _ _ c.from_residual.ensures.1
    (λ short. reads_on_name p _ _ _ _ c.requires.begins c.requires.gap
    (opening_question _ _ c.requires.opens).1 (named_completes p.names _ _ c.requires.opens
    (c.in_err-end.ensures.completes p.names short)))

-- what opens a name and the name
named_from : (t past rest name letters : Text) → NameOpening t past → NameWritten past rest letters
    → name ≡ letters → Named t rest name
named_from t past rest name letters opens written is =
    record {
      past = past;
      opens = opens;
      called = subst (λ w. NameWritten past rest w) (sym is) written;
    }

pub returns-in_err-open_capture-clause-refused : goal.returns-in_err-open_capture-clause-refused
returns-in_err-open_capture-clause-refused c =
    let name = text_of_name c.in_ok-name.name in
    let named =
    named_from _ _ _ name _ c.requires.opens c.in_ok-end.ensures.ok c.in_ok-name.ensures in
    at_exit _ _ c.from_residual-in_err-open_capture.ensures.1
    (number_refuses c.in_err-open_capture.field-0.0 c.args.self.now _
    c.in_err-open_capture.ensures.refused
    (begins_named c.args.self.now _ _ _ _ name c.requires.begins c.requires.gap named))

pub returns-then-not-branch-clause-refused : goal.returns-then-not-branch-clause-refused
returns-then-not-branch-clause-refused c =
    let name = text_of_name c.in_ok-name.name in
    let named =
    named_from _ _ _ name _ c.requires.opens c.in_ok-end.ensures.ok c.in_ok-name.ensures in
    let old : c.in_ok-insert.field-0 ≡ false = c.if-not-branch.true in
    let known = rw old at c.in_ok-insert.ensures in
    let twice : Contains c.args.self.now.names name = known in
    rw c.into.ensures
    (reads_no_second DuplicateCaptureName c.args.self.now _ _ _ _ name c.requires.begins
    c.requires.gap named twice)

pub returns-clause-ok : goal.returns-clause-ok
returns-clause-ok c =
    let name = text_of_name c.in_ok-name.name in
    let named =
    named_from _ _ _ name _ c.requires.opens c.in_ok-end.ensures.ok c.in_ok-name.ensures in
    let new : c.in_ok-insert.field-0 ≡ true = c.if-not-branch.false in
    let added = rw new at c.in_ok-insert.ensures in
    record {
      further = omega (arith, c.requires.inside, c.in_ok-end.ensures.inside);
      in_pattern = c.in_ok-end.ensures.inside.1;
      reads = reads_named c.args.self.now c.open_capture.new.self c.insert.new.self
          (drop c.args.at c.args.chars.now) _ _
          (drop c.in_ok-end.end c.args.chars.now) name c.requires.begins c.requires.gap named
          added.1 added.0 c.in_ok-open_capture.ensures.ok;
    }
