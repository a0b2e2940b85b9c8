use Rattle.regex_lite_engine.proofs.Common.{◌≡◌, map, length, tree_of}
use Rattle.regex_lite_engine.specs.Graph.StoredList.{TellGroupsOf}
use Rattle.regex_lite_engine.proofs.nfa.list.facts.groups_of.Given as goal

-- those of the patterns so far
abbrev pub invariant-loop-hir : goal.invariant-loop-hir
invariant-loop-hir l = record {
  all : length l.groups.items ≡ l.hir-index;
  each : TellGroupsOf (map tree_of l.hirs) l.groups.items;
}
