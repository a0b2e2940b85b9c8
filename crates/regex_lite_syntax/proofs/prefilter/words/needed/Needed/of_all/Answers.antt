use Rattle.regex_lite_syntax.proofs.Common.{◌≡◌, ◌+◌, [], ◌∷◌, ◌++◌, map, take, sym, ap, ◌∙◌}
use Rattle.regex_lite_syntax.proofs.Common.{subst, arith, take_all}
use Rattle.std.proofs.lemmas.List.{map-append, take_more}
use Rattle.std.proofs.lemmas.Option.{IfSome_then}
use Rattle.regex_lite_syntax.specs.Prefilter.Needed.{AreNeededByEach, IsNeededBy}
use Rattle.regex_lite_syntax.specs.Prefilter.NeededWalk.{as_needed}
use Rattle.regex_lite_syntax.proofs.prefilter.words.NeededBranchLemmas.{needed_by_more}
use Rattle.regex_lite_syntax.proofs.prefilter.words.needed.Needed.of_all.Goals as goal

pub loop-hir-preserved : goal.loop-hir-preserved
loop-hir-preserved g c =
    let hirs = c.args.hirs.now in
    let k = c.loop-hir.hir-index in
    let hir = c.hir-item.result in
    let tree = g.T.AsHir.tree in
    let found = c.in_ok-found.found in
    let all = c.loop-hir.all in
    let after = c.add.new.self in
    let more : map tree (take (k + 1) hirs) ≡ map tree (take k hirs) ++ tree hir ∷ []
    = ap (map tree) (take_more hirs k hir c.loop-hir-test.true
    ∙ ap (λ x. take k hirs ++ x ∷ []) (sym c.hir-item.is))
    ∙ map-append tree (take k hirs) (hir ∷ []) in
    subst (λ trees. AreNeededByEach trees (as_needed after.words after.lead)) (sym more)
    (needed_by_more (map tree (take k hirs)) (tree hir) (as_needed all.words all.lead)
    (as_needed found.words found.lead) (as_needed after.words after.lead)
    (subst (λ t. IsNeededBy t (as_needed found.words found.lead)) c.as_hir.ensures
    c.in_ok-found.ensures.needed)
    (c.add.ensures.added cc) (c.add.ensures.kept cc) c.loop-hir.invariant)

pub returns : goal.returns
returns g c =
    let hirs = c.args.hirs.now in
    let all = c.loop-hir.all in
    let taken = take_all c.loop-hir.hir-index hirs (omega (arith, c.loop-hir-test.false)) in
    IfSome_then c.by.result c.by.ensures (λ needed is.
    subst (AreNeededByEach (map g.T.AsHir.tree hirs)) (sym is)
    (subst (λ z. AreNeededByEach (map g.T.AsHir.tree z) (as_needed all.words all.lead)) taken
    c.loop-hir.invariant))
