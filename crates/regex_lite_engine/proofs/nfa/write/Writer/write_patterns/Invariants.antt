use Rattle.regex_lite_engine.proofs.Common.{◌≡◌, ◌+◌, ◌++◌, map, length, drop, tree_of}
use Rattle.regex_lite_engine.proofs.Common.{places_of_all, place_of, patterns_table}
use Rattle.regex_lite_engine.proofs.Common.{patterns_entries}
use Rattle.regex_lite_engine.proofs.nfa.write.Writer.write_patterns.Given as goal

-- with the patterns that are left these are all
abbrev pub invariant-loop-hir : goal.invariant-loop-hir
invariant-loop-hir l =
    let left = map tree_of (drop l.hir-index l.hirs) in
    let all = map tree_of l.hirs in
    let old = l.initial.self in record {
      written : map place_of l.self ++ patterns_table left (length l.self)
          ≡ map place_of old ++ patterns_table all (length old);
      entered : l.entries.items ++ patterns_entries left (length l.self)
          ≡ patterns_entries all (length old);
      grown : length l.self + places_of_all left ≡ length old + places_of_all all;
    }
