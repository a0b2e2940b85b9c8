-- The rows of bits for several patterns: one for each first and each second character, with a bit
-- for each pattern that may start with it.
use Rattle.std.specs.Prelude.{◌≡◌, ◌==◌, ◌+◌, ◌-◌, ◌*◌, ◌<◌, ◌≤◌, ℕ, Bool, true, false, ◌&&◌}
use Rattle.std.specs.Prelude.{nat_lt, not, if◌then◌else◌, List, filter, length}
use Rattle.std.specs.Prelude.{Option, Some, None}
use Rattle.std.specs.Int.{bit_at}
use Rattle.std.specs.List.{range_with_len}
use Rattle.regex_lite_syntax.specs.AsciiMaps.{bit_of_words}
use Rattle.regex_lite_syntax.specs.declared.prefilter.prefixes.PrefixSets.{PrefixSets}
use Rattle.regex_lite_syntax.specs.declared.prefilter.prefix_index.rows.BitRows.{BitRows}
use Rattle.regex_lite_syntax.specs.declared.prefilter.first_set.FirstSet.{FirstSet}
use Rattle.regex_lite_syntax.specs.Prefilter.FirstSet.{begins_with}

-- There are 129 rows for the first character, as many for the second, and one for the start of the
-- haystack. All characters that are not ASCII have one row together
abbrev pub column : ℕ → ℕ
column c = if nat_lt c 128 then c else 128

abbrev pub first_row : ℕ → ℕ
first_row c = column c

abbrev pub second_row : ℕ → ℕ
second_row c = 129 + column c

abbrev pub start_row : ℕ
start_row = 258

abbrev pub row_count : ℕ
row_count = 259

-- the row is one of this many from this one on, and its character passes the test
abbrev pub is_in_column : (ℕ → Bool) → (base width row : ℕ) → Bool
is_in_column test base width row =
    not (nat_lt row base) && (nat_lt row (base + width) && test (row - base))

-- the pattern with this number is in the row
abbrev pub has : BitRows → (row number : ℕ) → Bool
has rows row number = bit_of_words rows.words.items (64 * (row * rows.width) + number) == 1

-- the second character may be this one. If the second characters aren't known, it may be any
abbrev pub goes_on_with : Option FirstSet → ℕ → Bool
goes_on_with None c = true
goes_on_with (Some second) c = begins_with second c

-- a pattern that begins like this belongs in the row
abbrev pub belongs : PrefixSets → (row : ℕ) → Bool
belongs prefixes row =
    if nat_lt row 129 then begins_with prefixes.first row
    else (if nat_lt row 258 then goes_on_with prefixes.second (row - 129) else
    prefixes.first.at_start)

-- the one of these that has this number belongs in the row
abbrev pub one_belongs : Option PrefixSets → (row : ℕ) → Bool
one_belongs None row = false
one_belongs (Some part) row = belongs part row

-- each row has a bit for each number from 0 to below the count, in as few words as serve
pub record IsSized (rows : BitRows) (count : ℕ) : Type 0 where
  pub all : length rows.words.items ≡ row_count * rows.width
  pub enough : count ≤ 64 * rows.width
  pub few : 64 * rows.width < count + 64

-- the numbers of the bits that are set in a word, whose bit 0 has this number
unfoldable pub set_from : (lowest word : ℕ) → List ℕ
set_from lowest word =
    filter (λ number. bit_at word (number - lowest) == 1) (range_with_len lowest 64)
