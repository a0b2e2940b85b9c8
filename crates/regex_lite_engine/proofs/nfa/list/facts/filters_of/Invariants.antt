use Rattle.regex_lite_engine.proofs.Common.{◌≡◌, ℕ, map, length, slice_get, Some, Tree, tree_of}
use Rattle.regex_lite_syntax.specs.Prefilter.StartFacts.{AreFactsOfTree, StartFacts}
use Rattle.regex_lite_engine.specs.Search.Filters.{own_facts_of}
use Rattle.regex_lite_engine.proofs.nfa.list.facts.filters_of.Given as goal

-- those of the patterns so far
abbrev pub invariant-loop-hir : goal.invariant-loop-hir
invariant-loop-hir l = record {
  all : length l.filters.items ≡ l.hir-index;
  each : (number : ℕ) (tree : Tree) (part : StartFacts)
      → slice_get (map tree_of l.hirs) number ≡ Some tree
      → slice_get (map own_facts_of l.filters.items) number ≡ Some part → AreFactsOfTree tree part;
}
