-- Ranges of characters by their ends, which may be missing.
use Rattle.std.specs.Prelude.{ℕ, false, Option, Some, None, unwrap_or}
use Rattle.regex_lite_syntax.specs.Sets.{Set, span}

-- the characters from one end to the other, if both exist
abbrev pub span_of : (start end : Option ℕ) → Set
span_of (Some start) (Some end) = span start end
span_of (Some start) None = λ c. false
span_of None end = λ c. false

-- the number to start from: above all characters if there is no start
abbrev pub start_of : Option ℕ → ℕ
start_of start = unwrap_or start 0x110000
