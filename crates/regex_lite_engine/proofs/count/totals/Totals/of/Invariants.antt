use Rattle.regex_lite_engine.proofs.Common.{◌≡◌, ◌+◌, ◌*◌, ◌≤◌, map, drop, tree_of}
use Rattle.regex_lite_engine.proofs.Common.{places_of_all, arrows_of_all, reading_of_all}
use Rattle.regex_lite_engine.proofs.count.totals.Totals.of.Given as goal

-- with the patterns that are left these are the totals of all
abbrev pub invariant-loop-hir : goal.invariant-loop-hir
invariant-loop-hir l =
    let left = map tree_of (drop l.hir-index l.hirs) in
    let trees = map tree_of l.hirs in record {
      places : l.totals.places + places_of_all left ≡ places_of_all trees;
      arrows : l.totals.arrows + arrows_of_all left ≡ arrows_of_all trees;
      reading : l.totals.reading + reading_of_all left ≡ reading_of_all trees;
      few_arrows : l.totals.arrows ≤ 2 * l.totals.places;
      few_reading : l.totals.reading ≤ l.totals.places;
    }
