-- The characters that a match of a tree reads.
use Rattle.regex_lite_syntax.proofs.Common.{◌≡◌, ℕ, zero, suc, true, Some, sym, ap, ◌∙◌}
use Rattle.regex_lite_syntax.proofs.Common.{inl, inr, arith, cases_lt, slice_get, in_ranges}
use Rattle.regex_lite_syntax.proofs.Common.{Text, after, Tree, Trees, more, Matches, Chain, Bool}
use Rattle.regex_lite_syntax.proofs.Common.{SomeBranch, ClassRange, Look, begins_with, IsWider}
use Rattle.regex_lite_syntax.proofs.Common.{FirstSet, class, just, look, repetition, concat, Option}
use Rattle.regex_lite_syntax.proofs.Common.{alternation, List}
use Rattle.regex_lite_syntax.specs.Tree.{character, empty, none}
use Rattle.regex_lite_syntax.specs.Tree.Matches.{Passes}
use Rattle.regex_lite_syntax.specs.Prefilter.FirstSet.{AreBetween, EachReadsAmong, HasAll}
use Rattle.regex_lite_syntax.specs.Prefilter.FirstSet.{ReadsAmong}
use Rattle.regex_lite_syntax.proofs.OptionLemmas.{same_some}
use Rattle.regex_lite_syntax.proofs.prefilter.first_set.StartLemmas.{grown_on}
use Rattle.std.proofs.lemmas.Bool.Decides.{nat_tests}

pub same_width : (s : FirstSet) → IsWider s s
same_width s = record { with = λ c begins. begins; at_start = λ at_start. at_start }

-- between a position and itself there is none
pub none_between : (s : FirstSet) (h : Text) (i j : ℕ) → i ≡ j → AreBetween s h i j
none_between s h i j same k c low high there = absurd (omega (arith, same, low, high))

pub one_between : (s : FirstSet) (h : Text) (i j c : ℕ) → after h i ≡ Some c → j ≡ suc i
    → begins_with s c ≡ true → AreBetween s h i j
one_between s h i j c there next own k d low high at =
    let same : k ≡ i = omega (arith, next, low, high) in
    let equal : d ≡ c
    = same_some (sym at ∙ ap (slice_get h) same ∙ there) in
    ap (begins_with s) equal ∙ own

pub both_between : (s : FirstSet) (h : Text) (i k j : ℕ) → AreBetween s h i k → AreBetween s h k j
    → AreBetween s h i j
both_between s h i k j first later m c low high there = elim (cases_lt m k) [
  | inl lt ↦ first m c low lt there
  | inr ge ↦ later m c ge high there
]

pub wider_between : (s t : FirstSet) (h : Text) (i j : ℕ) → IsWider s t → AreBetween s h i j
    → AreBetween t h i j
wider_between s t h i j grown all k c low high there = grown.with c (all k c low high there)

pub reads_wider : (tree : Tree) (s t : FirstSet) → IsWider s t → ReadsAmong tree s → ReadsAmong tree
    t
reads_wider tree s t grown reads h i j m = wider_between s t h i j grown (reads h i j m)

pub reads_nothing : (s : FirstSet) → ReadsAmong empty s
reads_nothing s h i j same = none_between s h i j same

pub reads_look : (test : Look) (s : FirstSet) → ReadsAmong (look test) s
reads_look test s h i j (holds, same) = none_between s h i j same

pub reads_character : (c : ℕ) (s : FirstSet) → HasAll s (just c) → ReadsAmong (character c) s
reads_character c s has h i j (there, next) =
    let own : just c c ≡ true = grind (arith, nat_tests) in
    one_between s h i j c there next (has c own)

pub reads_class : (ranges : List ClassRange) (s : FirstSet) → HasAll s (in_ranges ranges)
    → ReadsAmong (class ranges) s
reads_class ranges s has h i j (c, there, member, next) =
    one_between s h i j c there next (has c member)

pub passes_between : (body : Tree) (s : FirstSet) → ReadsAmong body s → (h : Text) (n i j : ℕ)
    → Passes (Matches h body) n i j → AreBetween s h i j
passes_between body s reads h zero i j same = none_between s h i j same
passes_between body s reads h (suc n) i j (k, pass, passes) =
    both_between s h i k j (reads h i k pass) (passes_between body s reads h n k j passes)

pub reads_passes : (least : ℕ) (most : Option ℕ) (greedy : Bool) (body : Tree) (s : FirstSet)
    → ReadsAmong body s → ReadsAmong (repetition least most greedy body) s
reads_passes least most greedy body s reads h i j (n, low, high, passes) =
    passes_between body s reads h n i j passes

chain_between : (parts : Trees) (s : FirstSet) → EachReadsAmong parts s → (h : Text) (i j : ℕ)
    → Chain h parts i j → AreBetween s h i j
chain_between none s each h i j same = none_between s h i j same
chain_between (more a rest) s (first, later) h i j (k, m, chain) =
    both_between s h i k j (first h i k m) (chain_between rest s later h k j chain)

branch_between : (branches : Trees) (s : FirstSet) → EachReadsAmong branches s → (h : Text)
    (i j : ℕ) → SomeBranch h branches i j → AreBetween s h i j
branch_between none s each h i j some = absurd some
branch_between (more a rest) s (first, later) h i j (inl m) = first h i j m
branch_between (more a rest) s (first, later) h i j (inr some) =
    branch_between rest s later h i j some

pub reads_parts : (parts : Trees) (s : FirstSet) → EachReadsAmong parts s
    → ReadsAmong (concat parts) s
reads_parts parts s each h i j chain = chain_between parts s each h i j chain

pub reads_branches : (branches : Trees) (s : FirstSet) → EachReadsAmong branches s
    → ReadsAmong (alternation branches) s
reads_branches branches s each h i j some = branch_between branches s each h i j some

-- the trees from some one on, for whatever reads more
abbrev pub LeftAmong : (all left : Trees) (now : FirstSet) → Type 0
LeftAmong all left now =
    (s : FirstSet) → IsWider now s → EachReadsAmong left s → EachReadsAmong all s

pub tree_left : (all left : Trees) (a : Tree) (now next : FirstSet) → IsWider now next
    → ReadsAmong a next → LeftAmong all (more a left) now → LeftAmong all left next
tree_left all left a now next grown reads so_far s wider rest =
    so_far s (grown_on now next s grown wider) (reads_wider a next s wider reads, rest)
