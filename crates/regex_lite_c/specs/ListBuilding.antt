-- What is returned, held and written when a list of patterns is built.
use Rattle.std.specs.Prelude.{◌≡◌, ◌≢◌, ◌<◌, ◌⊎◌, ◌↔◌, ℕ, List, [], ◌∷◌, Option, Some, None}
use Rattle.std.specs.Prelude.{IsUtf8, drop, length, map, slice_get, take}
use Rattle.std.specs.List.{sum_by}
use Rattle.regex_lite_syntax.specs.Errors.{Refusal, kind_of, out_of_memory, text_of}
use Rattle.regex_lite.specs.Expression.{Expression, IsAccepted, expression_of}
use Rattle.regex_lite.specs.RegexList.{AreAccepted, IsDueToAll, IsDueToLowest}
use Rattle.regex_lite.specs.Settings.{Settings}
use Rattle.regex_lite_c.specs.Answers.{number_of}
use Rattle.regex_lite_c.specs.Building.{IsMessage}
use Rattle.regex_lite_c.specs.Options.{settings_of}
use Rattle.regex_lite_c.specs.declared.answer.TheConstants.{YES, NOT_TEXT, BAD_OFFSET}
use Rattle.regex_lite_c.specs.declared.answer.TheConstants.{OUT_OF_MEMORY}
use Rattle.regex_lite_c.specs.declared.list.build.Refused.{Refused}
use Rattle.regex_lite_c.specs.declared.list.build.Refused.TheVariants as refused
use Rattle.regex_lite_c.specs.declared.list.patterns.PatternSource.{PatternSource}
use Rattle.regex_lite_c.specs.declared.list.types.ListPattern.{ListPattern}
use Rattle.regex_lite_c.specs.declared.list.types.ListRefusal.{ListRefusal}

-- the total length of the patterns in bytes
abbrev pub all_len : List ListPattern → ℕ
all_len patterns = sum_by (λ pattern. pattern.len) patterns

-- the lengths of the patterns add up to that of the bytes
abbrev pub AreAllBytes : List ListPattern → (bytes : List ℕ) → Type 0
AreAllBytes patterns bytes = all_len patterns ≡ length bytes

-- the patterns under their options: each has as many of the next bytes as its length says
abbrev pub settings_of_all : (bytes : List ℕ) → List ListPattern → List Settings
settings_of_all bytes [] = []
settings_of_all bytes (pattern ∷ patterns) =
    settings_of (take pattern.len bytes) pattern.options
    ∷ settings_of_all (drop pattern.len bytes) patterns

abbrev pub settings_of_source : PatternSource → Settings
settings_of_source source = settings_of source.text.now source.options.now

-- each of the patterns is UTF-8
abbrev pub AreTexts : List Settings → Type 0
AreTexts all = (k : ℕ) (own : Settings) → slice_get all k ≡ Some own → IsUtf8 own.pattern

-- the pattern with this number is the first that isn't valid UTF-8
pub record IsFirstOtherBytes (all : List Settings) (number : ℕ) : Type 0 where
  pub settings : Settings
  pub numbered : slice_get all number ≡ Some settings
  pub is_not : IsUtf8 settings.pattern → ⊥
  pub lower : (k : ℕ) (own : Settings) → k < number → slice_get all k ≡ Some own
      → IsUtf8 own.pattern

-- what the error says is true of the first pattern that is rejected by itself, which has this
-- number; or if the number is the number of patterns, memory ran out, or they have too many places
-- together
abbrev pub IsDueAt : List Settings → (number : ℕ) → Refusal → Type 0
IsDueAt all number error =
    ((due : IsDueToLowest all error) × (number ≡ due.number))
    ⊎ ((number ≡ length all) × ((error ≡ out_of_memory) ⊎ IsDueToAll all error))

-- each pattern is accepted by itself
abbrev pub IsEachAccepted : List Settings → Type 0
IsEachAccepted all =
    (k : ℕ) (own : Settings) → slice_get all k ≡ Some own → IsAccepted own

-- the reason why patterns are rejected is true
abbrev pub IsRefusedAs : List Settings → Refused → Type 0
IsRefusedAs all (refused.NotText number) = IsFirstOtherBytes all number
IsRefusedAs all (refused.By number error) =
    IsDueAt all number error × ((error ≡ out_of_memory) ⊎ AreTexts all)
    × (AreAccepted all → error ≡ out_of_memory)

-- the number of the reason why patterns are rejected is returned, and the number of the pattern and
-- the message are written
abbrev pub IsReported : Refused → (answer : ℕ) → ListRefusal → (old new : List ℕ) → Type 0
IsReported (refused.NotText number) answer reported old new =
    (answer ≡ NOT_TEXT) × (reported.number ≡ number) × (reported.message_len ≡ 0) × (new ≡ old)
IsReported (refused.By number error) answer reported old new =
    (answer ≡ number_of (kind_of error)) × (reported.number ≡ number)
    × IsMessage (text_of error) old new reported.message_len

-- the patterns are rejected with this number, and with the text of a refusal that is due
abbrev pub IsListRefusedBy : List Settings → (answer : ℕ) → ListRefusal → (old new : List ℕ)
    → Type 0
IsListRefusedBy all answer reported old new =
    (error : Refusal) × IsDueAt all reported.number error × (answer ≡ number_of (kind_of error))
    × IsMessage (text_of error) old new reported.message_len

-- the answer when a list of these patterns is built, each under its own options; what is held and
-- written then, and the buffer for a message before and after
pub record IsListBuildAnswer (bytes : List ℕ) (patterns : List ListPattern) (answer : ℕ)
    (held : Option (List Expression)) (reported : ListRefusal) (old new : List ℕ) : Type 0 where
  pub built : answer ≡ YES → held ≡ Some (map expression_of (settings_of_all bytes patterns))
  pub accepted : answer ≡ YES → AreAccepted (settings_of_all bytes patterns)
  pub nothing : answer ≢ YES → held ≡ None
  -- the lengths of the patterns don't add up to that of the bytes
  pub bad_offset : (answer ≡ BAD_OFFSET) ↔ (AreAllBytes patterns bytes → ⊥)
  -- one of the patterns isn't valid UTF-8
  pub not_text : answer ≡ NOT_TEXT
      → IsFirstOtherBytes (settings_of_all bytes patterns) reported.number
  pub texts : (answer ≡ BAD_OFFSET) ⊎ ((answer ≡ NOT_TEXT) ⊎ ((answer ≡ OUT_OF_MEMORY)
      ⊎ AreTexts (settings_of_all bytes patterns)))
  pub refused : answer ≢ YES → answer ≢ BAD_OFFSET → answer ≢ NOT_TEXT
      → IsListRefusedBy (settings_of_all bytes patterns) answer reported old new
  -- if the patterns are accepted, the only error is that memory ran out
  pub complete : answer ≢ YES → AreAllBytes patterns bytes
      → AreTexts (settings_of_all bytes patterns) → AreAccepted (settings_of_all bytes patterns)
      → answer ≡ OUT_OF_MEMORY
  pub no_message : (answer ≡ YES) ⊎ ((answer ≡ BAD_OFFSET) ⊎ (answer ≡ NOT_TEXT))
      → (reported.message_len ≡ 0) × (new ≡ old)
  pub no_number : (answer ≡ YES) ⊎ (answer ≡ BAD_OFFSET) → reported.number ≡ length patterns
