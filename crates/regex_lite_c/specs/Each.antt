-- What is returned for the first matches in many texts, whose bytes are concatenated.
use Rattle.std.specs.Prelude.{◌≡◌, ◌≢◌, ◌⊎◌, ◌↔◌, ◌<◌, ◌+◌, ℕ, List, [], ◌∷◌, Option}
use Rattle.std.specs.Prelude.{IsCharBoundary, IsUtf8, length, slice_range}
use Rattle.regex_lite.specs.Expression.{Expression}
use Rattle.regex_lite_c.specs.Answers.{IsFailure}
use Rattle.regex_lite_c.specs.Spans.{AreWritten, TellsSpan}
use Rattle.regex_lite_c.specs.declared.answer.TheConstants.{YES, NOT_TEXT, BAD_OFFSET, NO_ROOM}
use Rattle.regex_lite_c.specs.declared.types.Span.{Span}

-- from this offset on the bytes are texts of these lengths, each of which ends on a character
-- boundary, and nothing follows
abbrev pub AreTextLengths : (bytes : List ℕ) → (at : ℕ) → (lens : List ℕ) → Type 0
AreTextLengths bytes at [] = at ≡ length bytes
AreTextLengths bytes at (len ∷ lens) =
    IsCharBoundary bytes (at + len) × AreTextLengths bytes (at + len) lens

-- the spans of the first match in each of these texts
abbrev pub AreFirstOfEach : Expression → (bytes : List ℕ) → (at : ℕ) → (lens : List ℕ)
    → (reported : List (Option (ℕ × ℕ))) → Type 0
AreFirstOfEach re bytes at [] reported = reported ≡ []
AreFirstOfEach re bytes at (len ∷ lens) [] = ⊥
AreFirstOfEach re bytes at (len ∷ lens) (one ∷ reported) =
    TellsSpan re (slice_range bytes at (at + len)) 0 one
    × AreFirstOfEach re bytes (at + len) lens reported

-- these spans were written to the front of the buffer
abbrev pub AreFoundEach : Expression → (bytes lens : List ℕ) → (old new : List Span) → Type 0
AreFoundEach re bytes lens old new =
    (reported : List (Option (ℕ × ℕ))) × AreFirstOfEach re bytes 0 lens reported
    × AreWritten reported old new

-- the answer when many texts are searched
pub record IsEachAnswer (re : Expression) (bytes lens : List ℕ) (old new : List Span)
    (answer : ℕ) : Type 0 where
  pub found : answer ≡ YES → AreFoundEach re bytes lens old new
  pub same : answer ≢ YES → new ≡ old
  pub not_text : (answer ≡ NOT_TEXT) ↔ (IsUtf8 bytes → ⊥)
  pub bad_offset : (answer ≡ BAD_OFFSET)
      ↔ (IsUtf8 bytes × (AreTextLengths bytes 0 lens → ⊥))
  pub no_room : answer ≡ NO_ROOM → length old < length lens
  pub one_of : (answer ≡ YES) ⊎ IsFailure answer
