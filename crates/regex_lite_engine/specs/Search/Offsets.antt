-- Positions in a haystack, which the definitions use, and offsets, which calls take and return.
use Rattle.std.specs.Prelude.{◌≡◌, ◌+◌, ◌-◌, ℕ, List, Option, length, take}
use Rattle.std.specs.Prelude.{sum_by, chars, option_map, slice_get, Some}
use Rattle.std.specs.Char.{len_utf8}
use Rattle.regex_lite_syntax.specs.Text.{Text}
use Rattle.regex_lite_syntax.specs.Tree.Matches.{IsPosition}
use Rattle.regex_lite_engine.specs.Search.Marks.{Marks}

-- the number of bytes before the position
abbrev pub offset : Text → ℕ → ℕ
offset haystack p = sum_by len_utf8 (take p haystack)

-- this is the offset of the position
abbrev pub IsOffset : Text → ℕ → ℕ → Type 0
IsOffset haystack p at = IsPosition haystack p × (at ≡ offset haystack p)

-- the position of an offset: the number of characters before it
abbrev pub position_at : (bytes : List ℕ) → ℕ → ℕ
position_at bytes at = length (chars (take at bytes))

-- the position at which a search from this offset begins: after all positions if the offset is
-- above the length
abbrev pub search_start : (bytes : List ℕ) → ℕ → ℕ
search_start bytes at = position_at bytes at + (at - length bytes)

-- each of these slots holds the offset of its mark
abbrev pub HasSlots : Text → (slots : List (Option ℕ)) → Marks → Type 0
HasSlots haystack slots marks =
    (k : ℕ) (slot : Option ℕ) → slice_get slots k ≡ Some slot
    → slot ≡ option_map (offset haystack) (marks k)
