-- Expansions of a template with the groups of a match.
use Rattle.std.specs.Prelude.{◌≡◌, ◌++◌, ℕ, List}
use Rattle.regex_lite_engine.specs.Interpolation.{GroupTexts, IsInterpolation}
use Rattle.regex_lite.specs.Groups.{Groups, group_text, named_text}

abbrev pub texts_of : Groups → GroupTexts
texts_of groups = record { at = group_text groups; at_name = named_text groups }

-- this text is the template's expansion, or a prefix of it
abbrev pub IsExpansion : Groups → (template text : List ℕ) → Type 0
IsExpansion groups template text = IsInterpolation (texts_of groups) template text

abbrev pub BeginsExpansion : Groups → (template text : List ℕ) → Type 0
BeginsExpansion groups template text =
    (rest : List ℕ) × IsExpansion groups template (text ++ rest)

-- a text of this kind was appended
abbrev pub Appends : (List ℕ → Type 0) → (old new : List ℕ) → Type 0
Appends Is old new = (text : List ℕ) × Is text × (new ≡ old ++ text)
