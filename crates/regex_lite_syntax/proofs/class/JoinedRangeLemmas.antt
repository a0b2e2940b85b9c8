-- What a range after the last run adds, joined to it or apart.
use Rattle.regex_lite_syntax.proofs.Common.{◌≡◌, ℕ, ◌+◌, ◌-◌, ◌<◌, ◌≤◌, ◌||◌, List, [], ◌∷◌, ◌++◌}
use Rattle.regex_lite_syntax.proofs.Common.{length, get_or, take, drop, IsTrue, All, sym, ap, ◌∙◌}
use Rattle.regex_lite_syntax.proofs.Common.{subst, arith, nat_tests, get_or-drop, is_character}
use Rattle.regex_lite_syntax.proofs.Common.{in_ranges, next_character, AreRuns, span, ClassRange}
use Rattle.std.proofs.Common.{add-zero, nat_cmp, slice_set}
use Rattle.std.specs.Ordering.{ord_max}
use Rattle.std.proofs.lemmas.Grind.{common_steps}
use Rattle.std.proofs.lemmas.List.{take_more, take_more_set, drop-drop}
use Rattle.regex_lite_syntax.proofs.RangeLemmas.{next_least, in_ranges-push}

pub max_above : (a b : ℕ) → a ≤ ord_max nat_cmp a b
max_above a b = grind (arith, nat_tests)

-- the range with another end
abbrev pub until : ℕ → ClassRange → ClassRange
until end r = record { start = r.start; end = end }

-- more runs after the last
pub runs_append : (n : ℕ) (a b : List ClassRange) (last : ClassRange) → AreRuns n (a ++ last ∷ [])
    → AreRuns (next_character last.end + 1) b → AreRuns n ((a ++ last ∷ []) ++ b)
runs_append n [] b last p q = (p.0, p.1, p.2, p.3, q)
runs_append n (r ∷ a) b last p q =
    (p.0, p.1, p.2, p.3, runs_append (next_character r.end + 1) a b last p.4 q)

-- a later end of the last
pub runs_until : (n : ℕ) (a : List ClassRange) (last : ClassRange) (end : ℕ)
    → AreRuns n (a ++ last ∷ []) → IsTrue (is_character end)
    → last.end ≤ end → AreRuns n (a ++ until end last ∷ [])
runs_until n [] last end p is later = (p.0, p.1, is, omega arith, tt)
runs_until n (r ∷ a) last end p is later =
    (p.0, p.1, p.2, p.3, runs_until (next_character r.end + 1) a last end p.4 is later)

-- where no character stands between two ranges, they hold what both together hold
span_joined : (start end first last c : ℕ) → start ≤ first → first ≤ next_character end
    → span start (ord_max nat_cmp end last) c ≡ (span start end c || span first last c)
span_joined start end first last c in_order near = grind (arith, nat_tests, next_least end c)

pub in_joined : (a : List ClassRange) (last r : ClassRange) (end c : ℕ) → last.start ≤ r.start
    → r.start ≤ next_character last.end
    → end ≡ ord_max nat_cmp last.end r.end
    → in_ranges (a ++ until end last ∷ []) c
    ≡ (in_ranges (a ++ last ∷ []) c || span r.start r.end c)
in_joined a last r end c in_order near is =
    let before = in_ranges-push a last c in
    let after = in_ranges-push a (until end last) c in
    let both = span_joined last.start last.end r.start r.end c in_order near in
    grind (arith, common_steps)

pub starts_until : (n end : ℕ) (a : List ClassRange) (last : ClassRange)
    → All (λ run. run.start ≤ n) (a ++ last ∷ [])
    → All (λ run. run.start ≤ n) (a ++ until end last ∷ [])
starts_until n end a last all k d inside = grind (arith, common_steps, all k d)

pub starts_last : (n : ℕ) (a : List ClassRange) (last : ClassRange)
    → All (λ run. run.start ≤ n) (a ++ last ∷ []) → last.start ≤ n
starts_last n a last all = let here = all (length a) last in grind (arith, common_steps)

pub starts_push : (n : ℕ) (a : List ClassRange) (r : ClassRange) → All (λ run. run.start ≤ n) a
    → r.start ≤ n → All (λ run. run.start ≤ n) (a ++ r ∷ [])
starts_push n a r all le k d inside = grind (arith, common_steps, all k d)

-- the last of the ranges in front
pub last_of : (xs : List ClassRange) (n : ℕ) (d : ClassRange) → 0 < n → n ≤ length xs
    → take n xs ≡ take (n - 1) xs ++ get_or xs (n - 1) d ∷ []
last_of xs n d some inside =
    let is : n - 1 + 1 ≡ n = omega (arith, some) in
    subst (λ k. take k xs ≡ take (n - 1) xs ++ get_or xs (n - 1) d ∷ []) is
    (take_more xs (n - 1) d (omega (arith, some, inside)))

-- another in its place
pub last_set : (xs : List ClassRange) (n : ℕ) (r : ClassRange) → 0 < n → n ≤ length xs
    → take n (slice_set xs (n - 1) r) ≡ take (n - 1) xs ++ r ∷ []
last_set xs n r some inside =
    let is : n - 1 + 1 ≡ n = omega (arith, some) in
    subst (λ k. take k (slice_set xs (n - 1) r) ≡ take (n - 1) xs ++ r ∷ []) is
    (take_more_set xs (n - 1) r (omega (arith, some, inside)))

-- what is the same from one index on is the same from a later one on
pub same_later : (xs ys : List ClassRange) (n m : ℕ) → n ≤ m → drop n xs ≡ drop n ys
    → drop m xs ≡ drop m ys
same_later xs ys n m le same =
    let is : n + (m - n) ≡ m = omega (arith, le) in
    subst (λ k. drop k xs ≡ drop k ys) is
    (sym (drop-drop (m - n) n xs) ∙ ap (λ l. drop (m - n) l) same ∙ drop-drop (m - n) n ys)

-- and so is the element there
pub same_there : (xs ys : List ClassRange) (n : ℕ) (d : ClassRange) → drop n xs ≡ drop n ys
    → get_or xs n d ≡ get_or ys n d
same_there xs ys n d same =
    subst (λ k. get_or xs k d ≡ get_or ys k d) (add-zero n)
    (sym (get_or-drop n xs 0 d) ∙ ap (λ l. get_or l 0 d) same ∙ get_or-drop n ys 0 d)
