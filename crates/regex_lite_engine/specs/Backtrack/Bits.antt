-- Bits in words of 64, the lowest first.
use Rattle.std.specs.Prelude.{ℕ, ◌==◌, Bool, List, map}
use Rattle.std.specs.List.{range_with_len}
use Rattle.regex_lite_syntax.specs.AsciiMaps.{bit_of_words}

-- the first bits of the words
abbrev pub bits_of : List ℕ → (count : ℕ) → List Bool
bits_of words count = map (λ k. bit_of_words words k == 1) (range_with_len 0 count)
