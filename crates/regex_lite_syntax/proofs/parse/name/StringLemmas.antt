-- Strings and their characters.
use Rattle.regex_lite_syntax.proofs.Common.{◌≡◌, chars, Global, sym, chars_from_encodes, Text}
use Rattle.std.proofs.Common.{String, string_bytes}
use Rattle.std.proofs.Math.Utf8.{encodes}
use Rattle.std.proofs.lemmas.Str.{IsUtf8-string_bytes}

-- a string that was made of these characters has them
pub chars_of_made : (made : String Global) (text : Text)
    → string_bytes made ≡ encodes text → chars (string_bytes made) ≡ text
chars_of_made made text bytes =
    sym (chars_from_encodes text (string_bytes made) (IsUtf8-string_bytes made) (sym bytes))
