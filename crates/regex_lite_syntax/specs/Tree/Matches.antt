-- The match relation: a tree matches a haystack from one position to another, in some way.
use Rattle.std.specs.Prelude.{◌≡◌, ◌⊎◌, ◌≤◌, ℕ, zero, suc, Option, Some, None, IsTrue, length}
use Rattle.regex_lite_syntax.specs.Text.{Text, after}
use Rattle.regex_lite_syntax.specs.Ranges.{in_ranges}
use Rattle.regex_lite_syntax.specs.Tree.Looks.{Holds}
use Rattle.regex_lite_syntax.specs.Tree.{Tree, empty, character, class, look, capture}
use Rattle.regex_lite_syntax.specs.Tree.{repetition, concat, alternation, Trees, none, more}

-- a position of the haystack: one before each character, and one at its end
abbrev pub IsPosition : Text → ℕ → Type 0
IsPosition haystack i = i ≤ length haystack

-- this many passes, one after another, lead from one position to the other
abbrev pub Passes : (pass : ℕ → ℕ → Type 0) → ℕ → ℕ → ℕ → Type 0
Passes pass zero i j = i ≡ j
Passes pass (suc n) i j = (k : ℕ) × pass i k × Passes pass n k j

-- at most this many, if there is a limit
abbrev pub AtMost : ℕ → Option ℕ → Type 0
AtMost n None = Unit {0}
AtMost n (Some most) = n ≤ most

module _ (haystack : Text) where
  abbrev mutual
    pub Matches : Tree → ℕ → ℕ → Type 0
    Matches empty i j = i ≡ j
    Matches (character c) i j = (after haystack i ≡ Some c) × (j ≡ suc i)
    Matches (class ranges) i j =
        (c : ℕ) × (after haystack i ≡ Some c) × IsTrue (in_ranges ranges c) × (j ≡ suc i)
    Matches (look test) i j = Holds test haystack i × (i ≡ j)
    Matches (repetition least most greedy body) i j =
        (n : ℕ) × (least ≤ n) × AtMost n most × Passes (Matches body) n i j
    Matches (capture index name body) i j = Matches body i j
    Matches (concat parts) i j = Chain parts i j
    Matches (alternation branches) i j = SomeBranch branches i j

    -- the parts match one after another
    pub Chain : Trees → ℕ → ℕ → Type 0
    Chain none i j = i ≡ j
    Chain (more a rest) i j = (k : ℕ) × Matches a i k × Chain rest k j

    pub SomeBranch : Trees → ℕ → ℕ → Type 0
    SomeBranch none i j = ⊥
    SomeBranch (more a rest) i j = Matches a i j ⊎ SomeBranch rest i j
