-- Escaped texts: patterns each of which matches exactly one text.
use Rattle.std.specs.Prelude.{◌≡◌, ℕ, ◌+◌, Bool, [], ◌∷◌, length, take, drop, map, if◌then◌else◌}
use Rattle.regex_lite_syntax.specs.Text.{Text, the, ◌∈◌}
use Rattle.regex_lite_syntax.specs.Tree.{Tree, character, sequence_of}

-- a character that doesn't stand for itself everywhere in a pattern
abbrev pub is_meta_character : ℕ → Bool
is_meta_character c = c ∈ "\\.+*?()|[]{}^$#&-~"

-- the text with a backslash before each metacharacter
abbrev pub escaped : Text → Text
escaped [] = []
escaped (c ∷ t) = if is_meta_character c then the "\\" ∷ c ∷ escaped t else c ∷ escaped t

-- the characters of the text, one after another
abbrev pub literal : Text → Tree
literal text = sequence_of (map character text)

-- the text occurs in the haystack from one position to the other
abbrev pub StandsAt : Text → (haystack : Text) → ℕ → ℕ → Type 0
StandsAt text haystack i j = (j ≡ i + length text) × (take (length text) (drop i haystack) ≡ text)
