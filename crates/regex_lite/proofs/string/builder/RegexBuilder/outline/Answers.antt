use Rattle.regex_lite.proofs.Common.{◌≤◌, sym, subst, err_from_is_err_and, tree_of, Settings}
use Rattle.regex_lite_syntax.specs.Limits.{depth}
use Rattle.regex_lite.proofs.string.AcceptanceLemmas.{read_for_memory, read_within}
use Rattle.regex_lite.proofs.string.builder.RegexBuilder.outline.Goals as goal

pub returns-in_err-hir-clause-complete : goal.returns-in_err-hir-clause-complete
returns-in_err-hir-clause-complete c =
    let left = err_from_is_err_and c.from_residual.result c.from_residual.ensures.1 in
    rw (left.1, left.2)
    (read_for_memory c.args.self.now c.in_err-hir.field-0.0 c.in_err-hir.ensures.refused)

pub parts_of-requires : goal.parts_of-requires
parts_of-requires c =
    let tree = tree_of c.in_ok-hir.hir in
    subst (λ (settings : Settings). depth tree ≤ settings.nest_limit) (sym c.self.view_is)
    (read_within c.args.self.now tree c.in_ok-hir.ensures.read)
