-- The pairs of ASCII characters with which a match of some pattern can begin.
use Rattle.std.specs.Prelude.{◌≡◌, ◌==◌, ◌+◌, ◌<◌, ℕ, Bool, false, ◌&&◌, ◌||◌}
use Rattle.std.specs.Prelude.{count_ones, filter, length, nat_le, slice_get, slice_index}
use Rattle.std.specs.Prelude.{Option, Some, None}
use Rattle.regex_lite_syntax.specs.AsciiMaps.{bit_of_words}
use Rattle.regex_lite_syntax.specs.declared.prefilter.prefixes.PrefixSets.{PrefixSets}
use Rattle.regex_lite_syntax.specs.declared.prefilter.prefix_index.PrefixIndex.{PrefixIndex}
use Rattle.regex_lite_syntax.specs.declared.prefilter.prefix_index.ascii_set.AsciiSet.{AsciiSet}
use Rattle.regex_lite_syntax.specs.Prefilter.Rows.{goes_on_with}
use Rattle.regex_lite_syntax.specs.Prefilter.FirstSet.{begins_with}

-- the ASCII character with this code is in the set
abbrev pub in_set : AsciiSet → (code : ℕ) → Bool
in_set set code = bit_of_words set.words code == 1

-- how many are in it
abbrev pub set_len : AsciiSet → ℕ
set_len set = count_ones (slice_index set.words 0) + count_ones (slice_index set.words 1)

-- at least 26 are
abbrev pub is_wide : AsciiSet → Bool
is_wide set = nat_le 26 (set_len set)

abbrev pub in_some_set : Option AsciiSet → (code : ℕ) → Bool
in_some_set None code = false
in_some_set (Some set) code = in_set set code

-- there is a set of second characters for each ASCII first one
abbrev pub HasAllPairs : PrefixIndex → Type 0
HasAllPairs prefixes = length prefixes.pairs.items ≡ 128

-- a match of some pattern can begin with these two ASCII characters, by the index
abbrev pub has_pair : PrefixIndex → (first second : ℕ) → Bool
has_pair prefixes first second = in_some_set (slice_get prefixes.pairs.items first) second

-- at least 26 characters can come first, each before at least 26 second ones
abbrev pub is_unselective : PrefixIndex → Bool
is_unselective prefixes = nat_le 26 (length (filter is_wide prefixes.pairs.items))

-- one that begins like this can begin with these two characters
abbrev pub begins_with_pair : (first second : ℕ) → PrefixSets → Bool
begins_with_pair first second prefixes =
    begins_with prefixes.first first && goes_on_with prefixes.second second

-- the pairs of a pattern that begins like this are added
pub record ArePairsWith (part : PrefixSets) (before after : PrefixIndex) : Type 0 where
  pub all : length after.pairs.items ≡ length before.pairs.items
  pub each : (first second : ℕ) → first < 128 → second < 128 → has_pair after first second
      ≡ (has_pair before first second || begins_with_pair first second part)

-- both are ASCII characters with which none begins
abbrev pub NeverBeginsWith : PrefixIndex → (first : ℕ) → (second : Option ℕ) → Type 0
NeverBeginsWith prefixes first None = ⊥
NeverBeginsWith prefixes first (Some second) =
    (first < 128) × (second < 128) × (has_pair prefixes first second ≡ false)
