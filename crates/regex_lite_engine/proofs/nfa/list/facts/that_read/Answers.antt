use Rattle.std.specs.Prelude.{not}
use Rattle.regex_lite_engine.proofs.Common.{◌≡◌, ℕ, Bool, nullable, List, [], ◌∷◌, map, length}
use Rattle.regex_lite_engine.proofs.Common.{slice_get, Some, sym, ap, ◌∙◌, subst, arith, tree_of}
use Rattle.regex_lite_engine.proofs.Common.{length-append, length-map, Tree}
use Rattle.regex_lite_syntax.proofs.LookupLemmas.{mapped_there, reported_more}
use Rattle.regex_lite_engine.proofs.nfa.list.facts.that_read.Goals as goal

pub loop-hir-preserved : goal.loop-hir-preserved
loop-hir-preserved c =
    let hirs = c.args.hirs.now in
    let trees = map tree_of hirs in
    let k = c.loop-hir.hir-index in
    let hir = c.hir-item.result in
    let v = c.loop-hir.invariant in
    let there = mapped_there tree_of hirs k hir c.loop-hir-test.true c.hir-item.is in
    let before = c.loop-hir.reads.items in
    let made : Bool = not c.counts.result.now.properties.nullable in
    let next : slice_get trees (length before) ≡ Some (tree_of hir) =
    ap (slice_get trees) v.all ∙ there in
    let pushed = c.in_ok-push.ensures.items in
    record {
      all = omega (arith, ap length pushed, length-append before (made ∷ []), v.all);
      each = subst (λ (list : List Bool). (number : ℕ) (tree : Tree) (reported : Bool)
          → slice_get trees number ≡ Some tree → slice_get list number ≡ Some reported
          → reported ≡ not (nullable tree)) (sym pushed)
          (reported_more (λ tree reported. reported ≡ not (nullable tree)) trees before
          (tree_of hir) made next (ap not c.counts.ensures.properties.nullable) v.each);
    }

pub returns : goal.returns
returns c =
    let v = c.loop-hir.invariant in
    let trees = map tree_of c.args.hirs.now in
    record {
      all = omega (arith, v.all, c.loop-hir-test.false, length-map c.args.hirs.now tree_of);
      each = v.each;
    }
