use Rattle.regex_lite_engine.proofs.Common.{◌≡◌, ◌^◌, ◌<◌, List, [], ◌∷◌, map, length, get_or}
use Rattle.regex_lite_engine.proofs.Common.{slice_get, Some, sym, ap, ◌∙◌, subst, arith, length-map}
use Rattle.regex_lite_engine.proofs.Common.{length-append, tree_of, whole_places}
use Rattle.regex_lite_engine.specs.Graph.StoredList.{TellGroupsOf, StoredGroups, TellsGroupsOf}
use Rattle.std.proofs.Math.ListN.{get_or-map}
use Rattle.regex_lite_syntax.proofs.LookupLemmas.{mapped_there, reported_more}
use Rattle.regex_lite_engine.proofs.nfa.list.facts.groups_of.Goals as goal

pub of-requires-clause-few : goal.of-requires-clause-few
of-requires-clause-few c =
    let hirs = c.args.hirs.now in
    let k = c.loop-hir.hir-index in
    let hir = c.hir-item.result in
    let there : get_or (map tree_of hirs) k (tree_of hir) ≡ tree_of hir
    = get_or-map tree_of hirs k hir ∙ ap tree_of (sym c.hir-item.is) in
    rw (c.hir.ensures)
    (subst (λ tree. whole_places tree < 2 ^ 32) there
    (c.requires k (tree_of hir)
    (omega (arith, length-map hirs tree_of, c.loop-hir-test.true))))

pub loop-hir-preserved : goal.loop-hir-preserved
loop-hir-preserved c =
    let hirs = c.args.hirs.now in
    let trees = map tree_of hirs in
    let k = c.loop-hir.hir-index in
    let hir = c.hir-item.result in
    let v = c.loop-hir.invariant in
    let there = mapped_there tree_of hirs k hir c.loop-hir-test.true c.hir-item.is in
    let before = c.loop-hir.groups.items in
    let next : slice_get trees (length before) ≡ Some (tree_of hir) =
    ap (slice_get trees) v.all ∙ there in
    let pushed = c.in_ok-push.ensures.items in
    record {
      all = omega (
        arith,
        ap length pushed,
        length-append before (c.in_ok-of.field-0 ∷ []),
        v.all,
      );
      each = subst (λ groups. TellGroupsOf trees groups) (sym {A = List StoredGroups} pushed)
          (reported_more TellsGroupsOf trees before (tree_of hir) c.in_ok-of.field-0 next
          (rw (← c.hir.ensures) c.in_ok-of.ensures) v.each);
    }
