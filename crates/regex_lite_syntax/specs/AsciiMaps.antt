-- Bitmaps of ASCII characters, as a number or as two words.
use Rattle.std.specs.Prelude.{◌≡◌, ℕ, ◌/◌, ◌%◌, ◌<◌, ◌==◌, List, slice_index}
use Rattle.std.specs.Int.{bit_at}
use Rattle.regex_lite_syntax.specs.declared.class.ClassRange.{ClassRange}
use Rattle.regex_lite_syntax.specs.Sets.{Set}
use Rattle.regex_lite_syntax.specs.Ranges.{in_ranges, AreRuns}

-- the bit of an ASCII character says whether the set contains it
abbrev pub TellsOf : (bit : ℕ → ℕ) → Set → Type 0
TellsOf bit set = (c : ℕ) → c < 128 → (bit c == 1) ≡ set c

-- a bit of a list of 64-bit words, the lowest word first
abbrev pub bit_of_words : List ℕ → ℕ → ℕ
bit_of_words words k = bit_at (slice_index words (k / 64)) (k % 64)

-- the number is the bitmap of the set
abbrev pub IsMapOf : ℕ → Set → Type 0
IsMapOf map = TellsOf (bit_at map)

-- the words are the bitmap of the set
abbrev pub AreMapOf : List ℕ → Set → Type 0
AreMapOf words = TellsOf (bit_of_words words)

-- the ranges are maximal runs in order, and the words are their bitmap
pub record AreMappedRuns (ranges : List ClassRange) (words : List ℕ) : Type 0 where
  pub runs : AreRuns 0 ranges
  pub ascii : AreMapOf words (in_ranges ranges)
