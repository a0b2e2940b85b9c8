use Rattle.regex_lite_syntax.proofs.Common.{◌≡◌, ℕ, ◌⊎◌, map, drop, Text, trees, Chain, SomeBranch}
use Rattle.regex_lite_syntax.proofs.Common.{tree_of, Reads, IsWider}
use Rattle.regex_lite_syntax.specs.declared.prefilter.prefixes.PrefixLen.TheVariants.{One, More}
use Rattle.regex_lite_syntax.proofs.prefilter.first_set.FirstSet.+add_second.Given as goal

-- the parts before read what is given
abbrev pub invariant-add_second_of_parts-loop-part : goal.invariant-add_second_of_parts-loop-part
invariant-add_second_of_parts-loop-part l = record {
  grown : IsWider l.fn.self l.self;
  left : (h : Text) (i j : ℕ) → Chain h (trees (map tree_of l.parts)) i j
      → (k : ℕ) × Reads l.self h i k l.head
      × Chain h (trees (map tree_of (drop l.part-index l.parts))) k j;
}

abbrev pub invariant-add_second_of_branches-loop-branch :
    goal.invariant-add_second_of_branches-loop-branch
invariant-add_second_of_branches-loop-branch l = record {
  grown : IsWider l.fn.self l.self;
  some : (l.head ≡ One) ⊎ (l.head ≡ More);
  left : (h : Text) (i j : ℕ) → SomeBranch h (trees (map tree_of l.branches)) i j
      → Reads l.self h i j l.head
      ⊎ SomeBranch h (trees (map tree_of (drop l.branch-index l.branches))) i j;
}
