use Rattle.regex_lite_engine.proofs.Common.{◌+◌, map, drop, ap, arith, sum_by-cons, tree_of}
use Rattle.regex_lite_engine.proofs.Common.{reading_places, whole_places, whole_arrows}
use Rattle.regex_lite_engine.proofs.Common.{places_of_all, arrows_of_all, reading_of_all}
use Rattle.regex_lite_engine.proofs.count.TotalLemmas.{trees_left}
use Rattle.regex_lite_syntax.proofs.LookupLemmas.{mapped_there}
use Rattle.regex_lite_engine.proofs.count.totals.Totals.of.Goals as goal

pub with-requires-clause-counted : goal.with-requires-clause-counted
with-requires-clause-counted c =
    let k = c.loop-hir.hir-index in
    let hir = c.hir-item.result in (
      tree_of hir,
      c.requires k (tree_of hir)
          (mapped_there tree_of c.args.hirs.now k hir c.loop-hir-test.true c.hir-item.is),
      c.counts.ensures,
    )

pub loop-hir-preserved : goal.loop-hir-preserved
loop-hir-preserved c =
    let hirs = c.args.hirs.now in
    let k = c.loop-hir.hir-index in
    let hir = c.hir-item.result in
    let tree = tree_of hir in
    let rest = map tree_of (drop (k + 1) hirs) in
    let v = c.loop-hir.invariant in
    let there = mapped_there tree_of hirs k hir c.loop-hir-test.true c.hir-item.is in
    let more = c.in_ok-totals.ensures.ok tree (c.requires k tree there) c.counts.ensures in
    let left = trees_left hirs k hir c.loop-hir-test.true c.hir-item.is in
    record {
      places = omega (
        arith,
        more.places,
        sum_by-cons whole_places tree rest,
        ap places_of_all left,
        v.places,
      );
      arrows = omega (
        arith,
        more.arrows,
        sum_by-cons whole_arrows tree rest,
        ap arrows_of_all left,
        v.arrows,
      );
      reading = omega (
        arith,
        more.reading,
        sum_by-cons reading_places tree rest,
        ap reading_of_all left,
        v.reading,
      );
      few_arrows = more.few_arrows;
      few_reading = more.few_reading;
    }
