use Rattle.regex_lite_engine.proofs.Common.{◌≡◌, map, tree_of, range_with_len}
use Rattle.std.specs.List.{filter}
use Rattle.regex_lite_engine.specs.Search.Starts.{may_be_empty}
use Rattle.regex_lite_engine.proofs.nfa.list.facts.that_may_be_empty.Given as goal

-- those of the patterns so far
abbrev pub invariant-loop-k : goal.invariant-loop-k
invariant-loop-k l =
    l.numbers.items ≡ filter (may_be_empty (map tree_of l.hirs)) (range_with_len 0 l.k)
