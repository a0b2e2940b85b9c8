-- With which third character a match of one of several patterns can go on.
use Rattle.std.specs.Prelude.{◌≡◌, ◌==◌, ◌%◌, ℕ, suc, Bool, true}
use Rattle.std.specs.Prelude.{List, slice_get, Option, Some, None}
use Rattle.std.specs.Int.{bit_at}
use Rattle.regex_lite_syntax.specs.Text.{Text, after}
use Rattle.regex_lite_syntax.specs.Tree.{Tree}
use Rattle.regex_lite_syntax.specs.Tree.Matches.{Matches}
use Rattle.regex_lite_syntax.specs.declared.prefilter.prefix_index.third_masks.ThirdMasks.{ThirdMasks}

-- a bit of a mask stands for all characters whose codes leave the same remainder by 32
abbrev pub in_mask : (mask c : ℕ) → Bool
in_mask mask c = bit_at mask (c % 32) == 1

-- where the tree matches, even if it reads nothing, the next character is in the mask, or there is
-- none
abbrev pub BeginsInMask : Tree → (mask : ℕ) → Type 0
BeginsInMask tree mask =
    (haystack : Text) (i j c : ℕ) → Matches haystack tree i j → after haystack i ≡ Some c
    → in_mask mask c ≡ true

-- each match of the tree reads one character
abbrev pub ReadsOne : Tree → Type 0
ReadsOne tree = (haystack : Text) (i j : ℕ) → Matches haystack tree i j → j ≡ suc i

-- where the tree matches, the third character from there is in the mask, or there is none
abbrev pub IsThirdOfTree : Tree → (mask : ℕ) → Type 0
IsThirdOfTree tree mask =
    (haystack : Text) (i j c : ℕ) → Matches haystack tree i j
    → after haystack (suc (suc i)) ≡ Some c → in_mask mask c ≡ true

abbrev pub in_some_mask : Option ℕ → (c : ℕ) → Bool
in_some_mask None c = true
in_some_mask (Some mask) c = in_mask mask c

-- the pattern with this number may have this third character. There may be none
abbrev pub may_go_on : ThirdMasks → (third : Option ℕ) → (number : ℕ) → Bool
may_go_on third_masks None number = true
may_go_on third_masks (Some c) number = in_some_mask (slice_get third_masks.masks.items number) c

-- each mask is that of the tree with the same number
abbrev pub AreMasksOf : List Tree → (masks : List ℕ) → Type 0
AreMasksOf trees masks =
    (number : ℕ) (tree : Tree) (mask : ℕ) → slice_get trees number ≡ Some tree
    → slice_get masks number ≡ Some mask → IsThirdOfTree tree mask
