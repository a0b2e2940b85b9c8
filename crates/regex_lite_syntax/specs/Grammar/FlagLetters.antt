-- Flags that are written in a pattern.
use Rattle.std.specs.Prelude.{◌≡◌, ℕ, ◌<◌, Bool, true, false, not, ◌&&◌, ◌==◌}
use Rattle.std.specs.Prelude.{[], ◌∷◌, ◌++◌, length, IsTrue, if◌then◌else◌}
use Rattle.regex_lite_syntax.specs.declared.flags.Flags.{Flags}
use Rattle.std.specs.List.{AllPass}
use Rattle.regex_lite_syntax.specs.Text.{Text, the, ◌∈◌}
use Rattle.regex_lite_syntax.specs.Characters.{is_one_of}

-- the letters that set or clear a flag; `u` stands for none
abbrev pub is_flag_letter : ℕ → Bool
is_flag_letter c = c ∈ "imsURxu"

-- the flags after one letter
abbrev pub with_flag : (set : Bool) → ℕ → Flags → Flags
with_flag set c flags =
    if c == the "i" then record flags { case_insensitive = set }
    else if c == the "m" then record flags { multi_line = set }
    else if c == the "s" then record flags { dot_matches_new_line = set }
    else if c == the "U" then record flags { swap_greed = set }
    else if c == the "R" then record flags { crlf = set }
    else if c == the "x" then record flags { ignore_whitespace = set }
    else flags

abbrev pub with_flags : (set : Bool) → Text → Flags → Flags
with_flags set [] flags = flags
with_flags set (c ∷ cs) flags = with_flags set cs (with_flag set c flags)

-- no letter occurs twice
abbrev pub all_differ : Text → Bool
all_differ [] = true
all_differ (c ∷ cs) = not (is_one_of cs c) && all_differ cs

-- flag letters, those after a dash clear their flags, the others set them
pub data FlagLetters (old : Flags) (t rest : Text) (new : Flags) : Type 0 where
  setting : (on : Text) → t ≡ on ++ rest → AllPass is_flag_letter on → IsTrue (all_differ on)
      → new ≡ with_flags true on old → FlagLetters old t rest new
  clearing : (on off past_dash : Text) → t ≡ on ++ the "-" ∷ past_dash
      → past_dash ≡ off ++ rest
      → 0 < length off → AllPass is_flag_letter on → AllPass is_flag_letter off
      → IsTrue (all_differ (on ++ off)) → new ≡ with_flags false off (with_flags true on old)
      → FlagLetters old t rest new
