use Rattle.regex_lite.proofs.Common.{refl, inl, inr, err_from_is_err_and, kind_of, tree_of}
use Rattle.regex_lite_engine.specs.Graph.Size.{IsDueToTree}
use Rattle.regex_lite.proofs.string.AcceptanceLemmas.{builds_refused}
use Rattle.regex_lite.proofs.string.builder.RegexBuilder.build.Goals as goal

pub returns-in_err-hir : goal.returns-in_err-hir
returns-in_err-hir c =
    let left = err_from_is_err_and c.from_residual.result c.from_residual.ensures.1 in
    rw (left.1, left.2) (builds_refused c.args.self.now c.in_err-hir.field-0.0
    (inl c.in_err-hir.ensures.refused))

pub returns-in_err-graph : goal.returns-in_err-graph
returns-in_err-graph c =
    let left = err_from_is_err_and c.from_residual-in_err-graph.result
    c.from_residual-in_err-graph.ensures.1 in
    let says : IsDueToTree c.args.self.now.size_limit (tree_of c.in_ok-hir.hir)
    (kind_of c.in_err-graph.field-0.0) =
    rw (← c.self.view_is) c.in_err-graph.ensures.refused in
    rw (left.1, left.2) (builds_refused c.args.self.now c.in_err-graph.field-0.0
    (inr (tree_of c.in_ok-hir.hir, c.in_ok-hir.ensures.read, says)))

pub returns : goal.returns
returns c =
    let read = c.in_ok-hir.ensures.read in
    record {
      ok = rw (c.in_ok-compiled.ensures.ok, c.in_ok-to_pattern.ensures, ← c.self.view_is) refl;
      accepted = (tree_of c.in_ok-hir.hir, read, rw (← c.self.view_is) c.in_ok-graph.ensures.fits);
      refused = tt;
      complete = tt;
    }

pub invariant_of-result : goal.invariant_of-result
invariant_of-result c =
    let read = c.in_ok-hir.ensures.read in
    rw (c.in_ok-compiled.ensures.ok) (record {
      tree = tree_of c.in_ok-hir.hir;
      given = rw (c.in_ok-to_pattern.ensures) (read.0, read.1, read.2);
      regular = c.in_ok-hir.ensures.regular;
      fits = (_, c.in_ok-graph.ensures.fits);
      graph = c.in_ok-graph.ensures.ok;
      groups = c.in_ok-graph.ensures.groups;
      reads = c.in_ok-graph.ensures.reads;
    })
