-- The pattern that escaping makes of a text.
use Rattle.std.specs.Prelude.{ℕ, List, chars, encode_utf8_all}
use Rattle.regex_lite_syntax.specs.Escaped.{escaped}

-- the pattern for a text, both as their bytes
abbrev pub escaped_pattern : (text : List ℕ) → List ℕ
escaped_pattern text = encode_utf8_all (escaped (chars text))
