-- What is returned, held and written when a regex is built.
use Rattle.std.specs.Prelude.{◌≡◌, ◌≢◌, ◌↔◌, ℕ, List, Option, Some, None, IsUtf8}
use Rattle.regex_lite_syntax.specs.Errors.{Refusal, kind_of, text_of}
use Rattle.regex_lite.specs.Expression.{Expression, IsAccepted, IsDue, expression_of}
use Rattle.regex_lite.specs.Settings.{Settings}
use Rattle.regex_lite_c.specs.Answers.{number_of}
use Rattle.regex_lite_c.specs.Buffers.{IsWritten}
use Rattle.regex_lite_c.specs.declared.answer.TheConstants.{YES, NOT_TEXT, OUT_OF_MEMORY}

-- a message was written to the buffer for it, if that is large enough, and its length was reported
abbrev pub IsMessage : (text old new : List ℕ) → (len : ℕ) → Type 0
IsMessage text old new len = (answer : ℕ) × IsWritten text old new len answer

-- a pattern is rejected with this number, and with the text of a refusal that has this property
abbrev pub IsRefusedFor : (Refusal → Type 0) → (answer : ℕ) → (old new : List ℕ) → (len : ℕ)
    → Type 0
IsRefusedFor IsTrueOf answer old new len =
    (error : Refusal) × IsTrueOf error × (answer ≡ number_of (kind_of error))
    × IsMessage (text_of error) old new len

-- the pattern is rejected with this number, and with the text of a refusal that is due
abbrev pub IsRefusedBy : Settings → (answer : ℕ) → (old new : List ℕ) → (len : ℕ) → Type 0
IsRefusedBy settings = IsRefusedFor (IsDue settings)

-- the answer when a regex is built under these settings, whose pattern may be any bytes; what is
-- held then, and the buffer for a message before and after
pub record IsBuildAnswer (settings : Settings) (answer : ℕ) (held : Option Expression)
    (old new : List ℕ) (len : ℕ) : Type 0 where
  pub built : answer ≡ YES → held ≡ Some (expression_of settings)
  pub accepted : answer ≡ YES → IsAccepted settings
  pub nothing : answer ≢ YES → held ≡ None
  pub not_text : (answer ≡ NOT_TEXT) ↔ (IsUtf8 settings.pattern → ⊥)
  pub refused : answer ≢ YES → IsUtf8 settings.pattern → IsRefusedBy settings answer old new len
  -- if the pattern has a tree and exceeds no limit, the only error is that memory ran out
  pub complete : answer ≢ YES → IsUtf8 settings.pattern → IsAccepted settings
      → answer ≡ OUT_OF_MEMORY
  pub no_message : (IsUtf8 settings.pattern → answer ≡ YES) → (len ≡ 0) × (new ≡ old)
