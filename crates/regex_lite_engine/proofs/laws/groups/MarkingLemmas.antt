-- What a match of a tree may mark, by cases on the tree.
use Rattle.regex_lite_engine.proofs.Common.{◌≡◌, ℕ, zero, suc, ◌+◌, ◌*◌, ◌≤◌, ◌⊎◌, IsTrue, Some}
use Rattle.regex_lite_engine.proofs.Common.{inl, inr, in_ranges, Text, after, Tree, empty}
use Rattle.regex_lite_engine.proofs.Common.{character, class, look, repetition, capture, concat}
use Rattle.regex_lite_engine.proofs.Common.{alternation, Trees, none, more, AtMost, Matches, Chain}
use Rattle.regex_lite_engine.proofs.Common.{SomeBranch, Marks, no_marks, marked, over}
use Rattle.regex_lite_syntax.specs.Tree.Looks.{Holds}
use Rattle.regex_lite_syntax.specs.Tree.Matches.{Passes}

-- this many passes, one after another, the marks of the later ones over those of the earlier
abbrev pub MarkedPasses : (pass : ℕ → ℕ → Marks → Type 0) → ℕ → ℕ → ℕ → Marks → Type 0
MarkedPasses pass zero i j marks = (i ≡ j) × (marks ≡ no_marks)
MarkedPasses pass (suc n) i j marks =
    (k : ℕ) × (first : Marks) × (later : Marks) × pass i k first
    × MarkedPasses pass n k j later × (marks ≡ over later first)

-- passes with marks are passes
passes_match : (Pass : ℕ → ℕ → Marks → Type 0) (Plain : ℕ → ℕ → Type 0)
    → ((i j : ℕ) (marks : Marks) → Pass i j marks → Plain i j)
    → (n i j : ℕ) (marks : Marks) → MarkedPasses Pass n i j marks → Passes Plain n i j
passes_match Pass Plain plain zero i j marks made = made.0
passes_match Pass Plain plain (suc n) i j marks (k, first, later, pass, made, e) =
    (k, plain i k first pass, passes_match Pass Plain plain n k j later made)

-- what the group marks, over what its body marks
abbrev pub around : (index i j : ℕ) → Marks → Marks
around index i j inner =
    over (marked (Some (2 * index + 1)) j) (over inner (marked (Some (2 * index)) i))

module _ (haystack : Text) where
  abbrev mutual
    pub Marking : Tree → ℕ → ℕ → Marks → Type 0
    Marking empty i j marks = (i ≡ j) × (marks ≡ no_marks)
    Marking (character c) i j marks =
        (after haystack i ≡ Some c) × (j ≡ suc i) × (marks ≡ no_marks)
    Marking (class ranges) i j marks =
        (c : ℕ) × (after haystack i ≡ Some c) × IsTrue (in_ranges ranges c) × (j ≡ suc i)
        × (marks ≡ no_marks)
    Marking (look test) i j marks = Holds test haystack i × (i ≡ j) × (marks ≡ no_marks)
    Marking (repetition least most greedy body) i j marks =
        (n : ℕ) × (least ≤ n) × AtMost n most × MarkedPasses (Marking body) n i j marks
    Marking (capture index name body) i j marks =
        (inner : Marks) × Marking body i j inner × (marks ≡ around index i j inner)
    Marking (concat parts) i j marks = MarkingChain parts i j marks
    Marking (alternation branches) i j marks = MarkingBranch branches i j marks

    pub MarkingChain : Trees → ℕ → ℕ → Marks → Type 0
    MarkingChain none i j marks = (i ≡ j) × (marks ≡ no_marks)
    MarkingChain (more a rest) i j marks =
        (k : ℕ) × (first : Marks) × (later : Marks) × Marking a i k first
        × MarkingChain rest k j later × (marks ≡ over later first)

    pub MarkingBranch : Trees → ℕ → ℕ → Marks → Type 0
    MarkingBranch none i j marks = ⊥
    MarkingBranch (more a rest) i j marks = Marking a i j marks ⊎ MarkingBranch rest i j marks

  -- without the marks it is a match
  mutual
    pub marking_matches : (tree : Tree) (i j : ℕ) (marks : Marks) → Marking tree i j marks
        → Matches haystack tree i j
    marking_matches empty i j marks m = m.0
    marking_matches (character c) i j marks m = (m.0, m.1)
    marking_matches (class ranges) i j marks m = (m.0, m.1, m.2, m.3)
    marking_matches (look test) i j marks m = (m.0, m.1)
    marking_matches (repetition least most greedy body) i j marks (n, low, high, made) =
        let passes = passes_match (Marking body) (Matches haystack body)
        (λ k l a m. marking_matches body k l a m) n i j marks made in
        (n, low, high, passes)
    marking_matches (capture index name body) i j marks (inner, m, e) =
        marking_matches body i j inner m
    marking_matches (concat parts) i j marks m = chain_matches parts i j marks m
    marking_matches (alternation branches) i j marks m = branch_matches branches i j marks m

    chain_matches : (parts : Trees) (i j : ℕ) (marks : Marks) → MarkingChain parts i j marks
        → Chain haystack parts i j
    chain_matches none i j marks m = m.0
    chain_matches (more a rest) i j marks (k, first, later, m, chain, e) =
        (k, marking_matches a i k first m, chain_matches rest k j later chain)

    branch_matches : (branches : Trees) (i j : ℕ) (marks : Marks) → MarkingBranch branches i j marks
        → SomeBranch haystack branches i j
    branch_matches none i j marks m = m
    branch_matches (more a rest) i j marks (inl m) = inl (marking_matches a i j marks m)
    branch_matches (more a rest) i j marks (inr m) = inr (branch_matches rest i j marks m)
