use Rattle.regex_lite.proofs.Common.{[], ◌∷◌, map, refl, ap, ◌∙◌, err_from_is_err_and, tree_of}
use Rattle.std.proofs.lemmas.List.{map-append}
use Rattle.std.proofs.lemmas.Option.{slice_get_read}
use Rattle.regex_lite.proofs.ListBuildLemmas.{accepted_more, lowest_fails}
use Rattle.regex_lite.proofs.string.list.build.parse_all.Goals as goal

pub returns-in_err-accepted_hir-clause-refused : goal.returns-in_err-accepted_hir-clause-refused
returns-in_err-accepted_hir-clause-refused c =
    let left = err_from_is_err_and c.from_residual-in_err-accepted_hir.result
    c.from_residual-in_err-accepted_hir.ensures.1 in
    let all = c.args.builders.now in
    rw (left.1, left.2) (lowest_fails all c.loop-builder.builder-index
    (map tree_of c.loop-builder.hirs.items) c.builder-item.result c.in_err-accepted_hir.field-0.0
    c.loop-builder.invariant
    (slice_get_read all _ c.loop-builder.builder-index c.builder-item.result refl
    c.loop-builder-test.true c.builder-item.is) c.in_err-accepted_hir.ensures.refused)

pub loop-builder-preserved : goal.loop-builder-preserved
loop-builder-preserved c =
    let old = c.loop-builder.hirs.items in
    let hir = c.in_ok-accepted_hir.field-0 in
    let more = ap (map tree_of) c.in_ok-push.ensures.items ∙ map-append tree_of old (hir ∷ []) in
    accepted_more c.args.builders.now c.loop-builder.builder-index (map tree_of old)
    (map tree_of c.push.new.self.items) c.builder-item.result (tree_of hir)
    c.loop-builder.invariant c.loop-builder-test.true c.builder-item.is
    c.in_ok-accepted_hir.ensures.accepted more
