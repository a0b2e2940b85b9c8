-- The new text for a haystack whose matches are replaced.
use Rattle.std.specs.Prelude.{ℕ, List, ◌++◌, slice_range, string_bytes, unwrap_or}
use Rattle.regex_lite.specs.declared.string.rewrite.Rewrite.{Rewrite}

-- the new text, followed by the haystack from the end of the last match to this offset
abbrev pub text_up_to : Rewrite → (offset : ℕ) → List ℕ
text_up_to rewrite offset =
    string_bytes rewrite.text
    ++ slice_range rewrite.haystack.now (unwrap_or rewrite.ended 0) offset
