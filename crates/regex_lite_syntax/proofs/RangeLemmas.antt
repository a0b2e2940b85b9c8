-- Ranges of characters, and that a set has one list of maximal runs.
use Rattle.regex_lite_syntax.proofs.Common.{◌≡◌, ℕ, ◌+◌, ◌<◌, ◌≤◌, Bool, ◌||◌, List, [], ◌∷◌, ◌++◌}
use Rattle.regex_lite_syntax.proofs.Common.{length, get_or, take, IsTrue, sym, refl, ap, ◌∙◌, arith}
use Rattle.regex_lite_syntax.proofs.Common.{nat_tests, list_any, is_character, in_ranges}
use Rattle.regex_lite_syntax.proofs.Common.{next_character, AreRuns, span, ClassRange}
use Rattle.std.specs.List.Sorted.{IsPermutation}
use Rattle.std.proofs.lemmas.Grind.{common_steps}
use Rattle.std.proofs.lemmas.List.Folds.{list_any_more}
use Rattle.std.proofs.lemmas.List.Sorted.{list_any-IsPermutation}

pub next_above : (c : ℕ) → c < next_character c
next_above c = grind (arith, nat_tests)

-- no character stands between a character and the next
pub next_least : (c d : ℕ) → IsTrue (is_character d) → c < d → next_character c ≤ d
next_least c d is above = grind (arith, nat_tests)

next_is : (c d : ℕ) → IsTrue (is_character c) → IsTrue (is_character d) → c < d
    → IsTrue (is_character (next_character c))
next_is c d is_c is_d above = grind (arith, nat_tests)

-- whether a range holds the character
abbrev pub holds : ℕ → ClassRange → Bool
holds c r = span r.start r.end c

pub in_ranges-any : (ranges : List ClassRange) (c : ℕ)
    → in_ranges ranges c ≡ list_any (holds c) ranges
in_ranges-any [] c = refl
in_ranges-any (r ∷ ranges) c = ap (λ rest. holds c r || rest) (in_ranges-any ranges c)

pub in_ranges-push : (ranges : List ClassRange) (r : ClassRange) (c : ℕ)
    → in_ranges (ranges ++ r ∷ []) c ≡ (in_ranges ranges c || span r.start r.end c)
in_ranges-push [] r c = grind (arith, common_steps)
in_ranges-push (s ∷ ranges) r c =
    let rest = in_ranges-push ranges r c in grind (arith, common_steps)

-- one more range, as at a step of a loop
pub in_ranges_more : (ranges : List ClassRange) (i c : ℕ) (d : ClassRange) → i < length ranges
    → in_ranges (take (i + 1) ranges) c
    ≡ (in_ranges (take i ranges) c || holds c (get_or ranges i d))
in_ranges_more ranges i c d inside = simp in_ranges-any (list_any_more (holds c) ranges i d inside)

pub in_ranges-permutation : (a b : List ClassRange) (c : ℕ) → IsPermutation a b
    → in_ranges a c ≡ in_ranges b c
in_ranges-permutation a b c moved = simp in_ranges-any (list_any-IsPermutation (holds c) a b moved)

-- runs hold no character before their start
pub runs_from : (n : ℕ) (ranges : List ClassRange) (c : ℕ) → AreRuns n ranges
    → IsTrue (in_ranges ranges c) → n ≤ c
runs_from n [] c runs held = grind arith
runs_from n (r ∷ ranges) c runs held =
    let rest = runs_from (next_character r.end + 1) ranges c runs.4 in
    grind (arith, nat_tests, next_above r.end)

abbrev HoldSame : List ClassRange → List ClassRange → Type 0
HoldSame a b = (c : ℕ) → in_ranges a c ≡ in_ranges b c

-- of two lists of runs that hold the same, the first run starts no sooner in the one than in the
-- other
starts_no_sooner : (n m : ℕ) (r s : ClassRange) (a b : List ClassRange) → AreRuns n (r ∷ a)
    → AreRuns m (s ∷ b) → HoldSame (r ∷ a) (s ∷ b) → s.start ≤ r.start
starts_no_sooner n m r s a b p q same =
    let here = same r.start in
    let rest = runs_from (next_character s.end + 1) b r.start q.4 in
    grind (arith, nat_tests, next_above s.end)

-- and ends no sooner
ends_no_sooner : (n m : ℕ) (r s : ClassRange) (a b : List ClassRange) → AreRuns n (r ∷ a)
    → AreRuns m (s ∷ b) → HoldSame (r ∷ a) (s ∷ b) → r.start ≡ s.start → s.end ≤ r.end
ends_no_sooner n m r s a b p q same start =
    let here = same (next_character r.end) in
    let rest = runs_from (next_character r.end + 1) a (next_character r.end) p.4 in
    grind (arith, nat_tests, next_above r.end, next_least r.end s.end, next_is r.end s.end)

same_range : (r s : ClassRange) → r.start ≡ s.start → r.end ≡ s.end → r ≡ s
same_range r s start end =
    ap (λ n. record { start = n; end = r.end }) start
    ∙ ap (λ n. record { start = s.start; end = n }) end

same_first : (n m : ℕ) (r s : ClassRange) (a b : List ClassRange) → AreRuns n (r ∷ a)
    → AreRuns m (s ∷ b) → HoldSame (r ∷ a) (s ∷ b) → r ≡ s
same_first n m r s a b p q same =
    let back = λ (c : ℕ). sym (same c) in
    let start : r.start ≡ s.start =
    omega (arith, starts_no_sooner n m r s a b p q same, starts_no_sooner m n s r b a q p back) in
    let end : r.end ≡ s.end = omega (
      arith,
      ends_no_sooner n m r s a b p q same start,
      ends_no_sooner m n s r b a q p back (sym start),
    ) in
    same_range r s start end

same_rest : (n m : ℕ) (r s : ClassRange) (a b : List ClassRange) → AreRuns n (r ∷ a)
    → AreRuns m (s ∷ b) → HoldSame (r ∷ a) (s ∷ b) → r ≡ s → HoldSame a b
same_rest n m r s a b p q same first c =
    let here = same c in
    let left = runs_from (next_character r.end + 1) a c p.4 in
    let right = runs_from (next_character s.end + 1) b c q.4 in
    grind (arith, nat_tests, next_above r.end)

once_from : (n m : ℕ) (a b : List ClassRange) → AreRuns n a → AreRuns m b → HoldSame a b → a ≡ b
once_from n m [] [] p q same = refl
once_from n m [] (s ∷ b) p q same = let here = same s.start in grind (arith, nat_tests)
once_from n m (r ∷ a) [] p q same = let here = same r.start in grind (arith, nat_tests)
once_from n m (r ∷ a) (s ∷ b) p q same =
    let first = same_first n m r s a b p q same in
    let rest = once_from (next_character r.end + 1) (next_character s.end + 1) a b p.4 q.4
    (same_rest n m r s a b p q same first) in
    cc

-- a set has one list of maximal runs
pub runs_once : (a b : List ClassRange) → AreRuns 0 a → AreRuns 0 b
    → ((c : ℕ) → in_ranges a c ≡ in_ranges b c) → a ≡ b
runs_once a b p q same = once_from 0 0 a b p q same
