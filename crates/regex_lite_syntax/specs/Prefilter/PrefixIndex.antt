-- Which of several patterns may start at a position, by the characters around it.
use Rattle.std.specs.Prelude.{◌≡◌, ◌⊎◌, ◌+◌, ◌*◌, ◌<◌, ◌≤◌, ℕ, suc, Bool, true, false}
use Rattle.std.specs.Prelude.{◌&&◌, ◌||◌, List, length, map, slice_get, slice_index}
use Rattle.std.specs.Prelude.{Option, Some, None, is_none}
use Rattle.std.specs.List.{list_any}
use Rattle.regex_lite_syntax.specs.Text.{Text, before, after}
use Rattle.regex_lite_syntax.specs.Tree.{Tree}
use Rattle.regex_lite_syntax.specs.declared.prefilter.prefixes.PrefixSets.{PrefixSets}
use Rattle.regex_lite_syntax.specs.declared.prefilter.prefix_index.PrefixIndex.{PrefixIndex}
use Rattle.regex_lite_syntax.specs.Prefilter.PrefixSets.{ArePrefixSetsOfTree}
use Rattle.regex_lite_syntax.specs.Prefilter.Pairs.{has_pair, begins_with_pair, HasAllPairs}
use Rattle.regex_lite_syntax.specs.Prefilter.Pairs.{NeverBeginsWith}
use Rattle.regex_lite_syntax.specs.Prefilter.Rows.{first_row, second_row, start_row, row_count}
use Rattle.regex_lite_syntax.specs.Prefilter.Rows.{has, one_belongs, IsSized}
use Rattle.regex_lite_syntax.specs.Prefilter.FirstSet.{stops_at, IsUnionOf}
use Rattle.regex_lite_syntax.specs.Prefilter.ThirdMasks.{may_go_on, AreMasksOf}

-- the pattern with this number may start between these characters, by the rows
abbrev pub may_start : PrefixIndex → (before first second : Option ℕ) → (number : ℕ) → Bool
may_start prefixes b None second number = true
may_start prefixes b (Some c) None number =
    has prefixes.rows (first_row c) number || (is_none b && has prefixes.rows start_row number)
may_start prefixes b (Some c) (Some d) number =
    (has prefixes.rows (first_row c) number && has prefixes.rows (second_row d) number)
    || (is_none b && has prefixes.rows start_row number)

-- it may start at the position
abbrev pub may_start_at : PrefixIndex → Text → (p number : ℕ) → Bool
may_start_at prefixes haystack p =
    may_start prefixes (before haystack p) (after haystack p) (after haystack (suc p))

-- it may start there by the third character too, if there is one
abbrev pub is_candidate_at : PrefixIndex → Text → (p : ℕ) → ℕ → Bool
is_candidate_at prefixes haystack p = λ number.
    may_start_at prefixes haystack p number
    && may_go_on prefixes.third_masks (after haystack (suc (suc p))) number

-- The byte at this offset shows that no match begins with the character there, or it and the one
-- after it are two ASCII characters with which none begins. At the haystack's start one may begin
-- all the same
abbrev pub IsPassedByAll : PrefixIndex → (bytes : List ℕ) → (at : ℕ) → Type 0
IsPassedByAll prefixes bytes at =
    (stops_at prefixes.any (slice_index bytes at) ≡ false)
    ⊎ ((at + 1 < length bytes)
    × NeverBeginsWith prefixes (slice_index bytes at) (Some (slice_index bytes (at + 1))))

-- The index is that of the patterns with these prefix sets, in the order of their numbers. A bit is
-- set where the pattern belongs in the row, and nowhere else. A match begins with what some pattern
-- can begin with
pub record IsIndexOf (parts : List PrefixSets) (prefixes : PrefixIndex) : Type 0 where
  pub sized : IsSized prefixes.rows prefixes.count
  pub bits : (row number : ℕ) → row < row_count → number < 64 * prefixes.rows.width
      → has prefixes.rows row number ≡ one_belongs (slice_get parts number) row
  pub any : IsUnionOf (map (λ part. part.first) parts) prefixes.any
  pub all_pairs : HasAllPairs prefixes
  pub pairs : (first second : ℕ) → first < 128 → second < 128
      → has_pair prefixes first second ≡ list_any (begins_with_pair first second) parts

-- the parts are the prefix sets of the trees, one by one
pub record AreEachPrefixSetsOf (trees : List Tree) (parts : List PrefixSets) : Type 0 where
  pub all : length parts ≡ length trees
  pub each : (number : ℕ) (tree : Tree) (part : PrefixSets) → slice_get trees number ≡ Some tree
      → slice_get parts number ≡ Some part → ArePrefixSetsOfTree tree part

-- the index says where each of the trees may match from
pub record IsPrefixIndexOfTrees (trees : List Tree) (prefixes : PrefixIndex) : Type 0 where
  pub parts : List PrefixSets
  pub of_trees : AreEachPrefixSetsOf trees parts
  pub count : prefixes.count ≡ length trees
  pub index : IsIndexOf parts prefixes
  pub third_masks : AreMasksOf trees prefixes.third_masks.masks.items

-- What the walk over the rows relies on: they have room for each pattern, and no bit of another. No
-- pattern is in both rows of two ASCII characters with which no match begins
pub record IsWalkable (prefixes : PrefixIndex) : Type 0 where
  pub sized : IsSized prefixes.rows prefixes.count
  pub none_beyond : (row number : ℕ) → row < row_count → prefixes.count ≤ number
      → number < 64 * prefixes.rows.width → has prefixes.rows row number ≡ false
  pub all_pairs : HasAllPairs prefixes
  pub not_in_rows : (first second number : ℕ) → first < 128 → second < 128 → number < prefixes.count
      → has_pair prefixes first second ≡ false → (has prefixes.rows (first_row first) number
      && has prefixes.rows (second_row second) number) ≡ false
