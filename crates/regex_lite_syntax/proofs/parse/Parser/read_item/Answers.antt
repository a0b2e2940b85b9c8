use Rattle.regex_lite_syntax.proofs.Common.{drop, Atom, CanRead, CanReadOn, Completable, Text, Tree}
use Rattle.regex_lite_syntax.proofs.ExitLemmas.{at_exit}
use Rattle.regex_lite_syntax.proofs.parse.DenialLemmas.{denial_refuses}
use Rattle.regex_lite_syntax.proofs.parse.CompletionLemmas.{cut_short_says}
use Rattle.regex_lite_syntax.proofs.machine.CompletedStepLemmas.{reads_on_atom}
use Rattle.regex_lite_syntax.proofs.machine.ReadStepLemmas.{reads_atom, reads_item}
use Rattle.regex_lite_syntax.proofs.parse.Parser.read_item.Goals as goal

pub returns-in_err-end-clause-refused : goal.returns-in_err-end-clause-refused
returns-in_err-end-clause-refused c =
    let p = c.args.self.now in
    at_exit _ _ c.from_residual.ensures.1 (denial_refuses c.in_err-end.field-0.0
    (λ t. (rest : Text) × (a : Tree) × Atom p.here.flags t rest a) (CanRead p) _ _ _ _
    (λ more. reads_item p _ more c.requires.past_gap c.requires.begins)
    c.in_err-end.ensures.refused)

pub returns-in_err-end-clause-completes : goal.returns-in_err-end-clause-completes
returns-in_err-end-clause-completes c =
    let p = c.args.self.now in
    let t = drop c.args.at c.args.chars.now in
    at_exit _ _ c.from_residual.ensures.1 (cut_short_says c.in_err-end.field-0.0
    (Completable (λ t rest. (a : Tree) × Atom p.here.flags t rest a) t) (CanReadOn p t)
    (reads_on_atom p t) c.in_err-end.ensures.completes)

pub returns-clause-ok : goal.returns-clause-ok
returns-clause-ok c = record {
  further = c.in_ok-end.ensures.inside.0;
  in_pattern = c.in_ok-end.ensures.inside.1;
  reads =
      reads_atom c.args.self.now c.add.new.self _ _ _ c.in_ok-end.ensures.ok c.in_ok-add.ensures;
}
