use Rattle.std.specs.Prelude.{not}
use Rattle.regex_lite_engine.proofs.Common.{◌≡◌, ℕ, Bool, nullable, map, length, slice_get, Some}
use Rattle.regex_lite_engine.proofs.Common.{Tree, tree_of}
use Rattle.regex_lite_engine.proofs.nfa.list.facts.that_read.Given as goal

-- those of the patterns so far
abbrev pub invariant-loop-hir : goal.invariant-loop-hir
invariant-loop-hir l = record {
  all : length l.reads.items ≡ l.hir-index;
  each : (number : ℕ) (tree : Tree) (reported : Bool)
      → slice_get (map tree_of l.hirs) number ≡ Some tree
      → slice_get l.reads.items number ≡ Some reported → reported ≡ not (nullable tree);
}
