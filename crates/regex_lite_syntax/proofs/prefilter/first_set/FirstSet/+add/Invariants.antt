use Rattle.regex_lite_syntax.proofs.Common.{◌≡◌, ℕ, ◌⊎◌, map, drop, IsTrue, Text, trees, Chain}
use Rattle.regex_lite_syntax.proofs.Common.{SomeBranch, tree_of, MayBegin, IsWider}
use Rattle.regex_lite_syntax.proofs.prefilter.first_set.FirstSet.+add.Given as goal

-- the parts before may read nothing
abbrev pub invariant-add_parts-loop-part : goal.invariant-add_parts-loop-part
invariant-add_parts-loop-part l = record {
  grown : IsWider l.fn.self l.self;
  left : (h : Text) (i j : ℕ) → Chain h (trees (map tree_of l.parts)) i j
      → MayBegin l.self h i ⊎ Chain h (trees (map tree_of (drop l.part-index l.parts))) i j;
}

abbrev pub invariant-add_branches-loop-branch : goal.invariant-add_branches-loop-branch
invariant-add_branches-loop-branch l = record {
  grown : IsWider l.fn.self l.self;
  left : (h : Text) (i j : ℕ) → SomeBranch h (trees (map tree_of l.branches)) i j
      → MayBegin l.self h i
      ⊎ ((IsTrue l.passable × (i ≡ j))
      ⊎ SomeBranch h (trees (map tree_of (drop l.branch-index l.branches))) i j);
}
