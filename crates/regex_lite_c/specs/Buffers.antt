-- What is written to a caller's buffer.
use Rattle.std.specs.Prelude.{◌≡◌, ◌<◌, ◌≤◌, ◌++◌, ℕ, List, MatchOption, drop, length}
use Rattle.std.specs.Prelude.{slice_get}
use Rattle.regex_lite.specs.Expression.{Expression}
use Rattle.regex_lite_c.specs.declared.answer.TheConstants.{NO, YES, NO_ROOM}

-- a text was written to the front of the buffer, and nothing after it; or the buffer is too small
-- and unchanged; the text's length is written either way
pub record IsWritten (text old new : List ℕ) (len answer : ℕ) : Type 0 where
  pub need : len ≡ length text
  pub written : length text ≤ length old → (answer ≡ YES) × (new ≡ text ++ drop (length text) old)
  pub no_room : length old < length text → (answer ≡ NO_ROOM) × (new ≡ old)

-- the pattern with this number was written; or there is none, and nothing changes
abbrev pub IsPatternAnswer : List Expression → (number : ℕ) → (old new : List ℕ)
    → (old_len len answer : ℕ) → Type 0
IsPatternAnswer list number old new old_len len answer =
    MatchOption (slice_get list number) ((answer ≡ NO) × (new ≡ old) × (len ≡ old_len))
    (λ re. IsWritten re.pattern old new len answer)
