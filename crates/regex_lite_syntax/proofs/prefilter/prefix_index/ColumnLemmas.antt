-- What one more character adds to the rows of a column.
use Rattle.regex_lite_syntax.proofs.Common.{◌≡◌, ℕ, ◌+◌, ◌<◌, ◌≤◌, Bool, true, false, ◌&&◌, ◌||◌}
use Rattle.regex_lite_syntax.proofs.Common.{◌==◌, arith, nat_tests, start_row, is_in_column}
use Rattle.regex_lite_syntax.proofs.Common.{goes_on_with, belongs, begins_with, PrefixSets}
use Rattle.regex_lite_syntax.specs.Prefilter.Rows.{row_count}

-- a character that passes the test adds its row
pub one_more_row : (test : ℕ → Bool) (base k r : ℕ) → test k ≡ true
    → is_in_column test base (k + 1) r ≡ (is_in_column test base k r || r == base + k)
one_more_row test base k r passes = grind (arith, nat_tests)

-- characters that don't pass it add none
pub no_more_rows : (test : ℕ → Bool) (base k j r : ℕ) → k ≤ j
    → ((c : ℕ) → k ≤ c → c < j → test c ≡ false)
    → is_in_column test base j r ≡ is_in_column test base k r
no_more_rows test base k j r up none = grind (arith, nat_tests)

-- a bit that is set in one more row
pub one_more_bit : (before now next here : Bool) (old new at : Bool)
    → now ≡ (before || (here && old)) → next ≡ (now || (here && at)) → new ≡ (old || at)
    → next ≡ (before || (here && new))
one_more_bit before now next here old new at is then more = grind (arith, nat_tests)

-- a bit that is set under a test that doesn't hold
pub no_more_bit : (before here test at : Bool) → test ≡ false
    → before ≡ (before || (here && (test && at)))
no_more_bit before here test at fails = grind (arith, nat_tests)

-- the rows of the first characters, those of the second ones and the one of the start are set
pub belongs_now : (prefixes : PrefixSets) (r : ℕ) (before first second after here : Bool) → r
    < row_count → first ≡ (before || (here && is_in_column (begins_with prefixes.first) 0 129 r))
    → second ≡ (first || (here && is_in_column (goes_on_with prefixes.second) 129 129 r))
    → after ≡ (second || (here && (prefixes.first.at_start && r == start_row)))
    → after ≡ (before || (here && belongs prefixes r))
belongs_now prefixes r before first second after here inside one two three =
    grind (arith, nat_tests)
