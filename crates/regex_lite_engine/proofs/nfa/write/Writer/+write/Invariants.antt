use Rattle.regex_lite_engine.proofs.Common.{◌≡◌, ◌+◌, ◌*◌, ◌^◌, ◌<◌, ◌++◌, map, length, drop, trees}
use Rattle.regex_lite_engine.proofs.Common.{greatest_index_in, tree_of, places, places_in, place_of}
use Rattle.regex_lite_engine.proofs.Common.{IsAdded, copies_layout, choices_layout, layout}
use Rattle.regex_lite_engine.proofs.Common.{chain_layout, branches_layout}
use Rattle.regex_lite_engine.proofs.nfa.write.Writer.+write.Given as goal

-- the parts from i on are written
abbrev pub invariant-write_concat-loop-i : goal.invariant-write_concat-loop-i
invariant-write_concat-loop-i l =
    let later = trees (map tree_of (drop l.i l.parts)) in
    let old = l.initial.self in record {
      written : IsAdded (map place_of old) (map place_of l.self) l.next
          (chain_layout later (length old) l.initial.exit);
      grown : length l.self ≡ length old + places_in later;
    }

-- with the branches that are left these are all
abbrev pub invariant-write_branches-loop-branch : goal.invariant-write_branches-loop-branch
invariant-write_branches-loop-branch l =
    let left = trees (map tree_of (drop l.branch-index l.branches)) in
    let all = trees (map tree_of l.branches) in
    let old = l.initial.self in record {
      written : map place_of l.self ++ (branches_layout left (length l.self) l.join).0
          ≡ map place_of old ++ (branches_layout all (length old) l.join).0;
      entered : l.entries.items ++ (branches_layout left (length l.self) l.join).1
          ≡ (branches_layout all (length old) l.join).1;
      grown : length l.self + places_in left ≡ length old + places_in all;
      slots : greatest_index_in left < 2 ^ 31;
    }

abbrev pub invariant-write_copies-loop-i : goal.invariant-write_copies-loop-i
invariant-write_copies-loop-i l =
    let body = tree_of l.body in
    let old = l.initial.self in record {
      written : IsAdded (map place_of old) (map place_of l.self) l.next
          (copies_layout (layout body) l._i (length old) l.initial.exit);
      grown : length l.self ≡ length old + l._i * places body;
    }

abbrev pub invariant-write_choices-loop-i : goal.invariant-write_choices-loop-i
invariant-write_choices-loop-i l =
    let body = tree_of l.body in
    let old = l.initial.self in record {
      written : IsAdded (map place_of old) (map place_of l.self) l.next
          (choices_layout l.greedy (layout body) l._i (length old) l.join);
      grown : length l.self ≡ length old + l._i * (places body + 1);
    }
