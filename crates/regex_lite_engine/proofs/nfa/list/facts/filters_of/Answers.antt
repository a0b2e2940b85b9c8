use Rattle.regex_lite_engine.proofs.Common.{◌≡◌, ℕ, List, [], ◌∷◌, map, length, slice_get, Some}
use Rattle.regex_lite_engine.proofs.Common.{sym, ap, ◌∙◌, subst, arith, length-append, length-map}
use Rattle.regex_lite_engine.proofs.Common.{map-append, Tree, tree_of}
use Rattle.regex_lite_syntax.specs.Prefilter.StartFacts.{AreFactsOfTree, StartFacts}
use Rattle.regex_lite_engine.specs.Search.Filters.{own_facts_of}
use Rattle.regex_lite_syntax.proofs.LookupLemmas.{mapped_there, reported_more}
use Rattle.regex_lite_engine.proofs.nfa.list.facts.filters_of.Goals as goal

pub loop-hir-preserved : goal.loop-hir-preserved
loop-hir-preserved c =
    let hirs = c.args.hirs.now in
    let trees = map tree_of hirs in
    let k = c.loop-hir.hir-index in
    let hir = c.hir-item.result in
    let v = c.loop-hir.invariant in
    let there = mapped_there tree_of hirs k hir c.loop-hir-test.true c.hir-item.is in
    let before = c.loop-hir.filters.items in
    let made = c.in_ok-filter_of.field-0 in
    let prefixes = map own_facts_of before in
    let next : slice_get trees (length prefixes) ≡ Some (tree_of hir) =
    ap (slice_get trees) (length-map before own_facts_of ∙ v.all) ∙ there in
    let pushed = c.in_ok-push.ensures.items in
    let mapped = ap (map own_facts_of) pushed ∙ map-append own_facts_of before (made ∷ []) in
    record {
      all = omega (arith, ap length pushed, length-append before (made ∷ []), v.all);
      each = subst (λ (list : List StartFacts). (number : ℕ) (tree : Tree) (part : StartFacts)
          → slice_get trees number ≡ Some tree → slice_get list number ≡ Some part
          → AreFactsOfTree tree part) (sym mapped)
          (reported_more AreFactsOfTree trees prefixes (tree_of hir) (own_facts_of made) next
          (rw (← c.hir.ensures) c.in_ok-filter_of.ensures) v.each);
    }
