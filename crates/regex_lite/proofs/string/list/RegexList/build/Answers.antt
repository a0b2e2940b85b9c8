use Rattle.regex_lite.proofs.Common.{map, length, sym, ap, ◌∙◌, subst, err_from_is_err_and, tree_of}
use Rattle.regex_lite.proofs.Common.{AreRegularPatterns, expression_of}
use Rattle.regex_lite.specs.RegexList.{IsAcceptedAs}
use Rattle.regex_lite.proofs.ListBuildLemmas.{accepted_trees, each_fits, refused_before}
use Rattle.regex_lite.proofs.ListBuildLemmas.{refused_together, regular_trees}
use Rattle.regex_lite.proofs.PairedLemmas.{paired_length}
use Rattle.regex_lite.proofs.string.list.RegexList.build.Goals as goal

pub returns-in_err-hirs : goal.returns-in_err-hirs
returns-in_err-hirs c =
    let left = err_from_is_err_and c.from_residual.result c.from_residual.ensures.1 in
    rw (left.1, left.2) (refused_before c.args.builders.now c.in_err-hirs.field-0.0
    c.in_err-hirs.ensures.refused)

pub new-requires-clause-regular : goal.new-requires-clause-regular
new-requires-clause-regular c =
    let all = c.args.builders.now in
    let trees = map tree_of c.in_ok-hirs.hirs.items in
    subst (λ items. AreRegularPatterns (map tree_of items)) (sym c.deref.ensures.value)
    (regular_trees (map expression_of all) trees
    (accepted_trees all trees c.in_ok-hirs.ensures.accepted))

pub new-requires-clause-fit : goal.new-requires-clause-fit
new-requires-clause-fit c =
    rw (c.deref.ensures.value) (each_fits c.args.builders.now (map tree_of c.in_ok-hirs.hirs.items)
    c.in_ok-hirs.ensures.accepted)

pub returns-in_err-graph : goal.returns-in_err-graph
returns-in_err-graph c =
    let left = err_from_is_err_and c.from_residual-in_err-graph.result
    c.from_residual-in_err-graph.ensures.1 in
    let trees = map tree_of c.in_ok-hirs.hirs.items in
    rw (left.1, left.2) (refused_together c.args.builders.now trees c.in_err-graph.field-0.0
    c.in_ok-hirs.ensures.accepted (rw (← c.deref.ensures.value) c.in_err-graph.ensures.refused))

pub kept_slots-kept_slots-requires : goal.kept_slots-kept_slots-requires
kept_slots-kept_slots-requires c =
    let trees = map tree_of c.in_ok-hirs.hirs.items in
    paired_length IsAcceptedAs c.args.builders.now trees c.in_ok-hirs.ensures.accepted
    ∙ ap (λ items. length (map tree_of items)) (sym c.deref.ensures.value)
    ∙ sym c.in_ok-graph.ensures.groups.all

pub invariant_of-result : goal.invariant_of-result
invariant_of-result c =
    let all = c.args.builders.now in
    let trees = map tree_of c.in_ok-hirs.hirs.items in
    let given = accepted_trees all trees c.in_ok-hirs.ensures.accepted in
    rw (c.in_ok-compiled.ensures.ok) (record {
      trees = trees;
      given = rw (c.in_ok-patterns.ensures) given;
      regular = regular_trees (map expression_of all) trees given;
      fit = rw (← c.deref.ensures.value) c.in_ok-graph.ensures.fits;
      graph = rw (← c.deref.ensures.value) c.in_ok-graph.ensures.ok;
      groups = rw (← c.deref.ensures.value) c.in_ok-graph.ensures.groups;
      reads = rw (← c.deref.ensures.value) c.in_ok-graph.ensures.reads;
      slots = c.kept_slots-kept_slots.ensures;
    })
