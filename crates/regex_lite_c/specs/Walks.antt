-- What is returned for all matches in a text, in batches.
use Rattle.std.specs.Prelude.{◌≡◌, ◌≢◌, ◌⊎◌, ◌<◌, ◌≤◌, ℕ, suc, List, Option, Some, None}
use Rattle.std.specs.Prelude.{cond, chars, length, map, option_map, slice_get, unwrap_or}
use Rattle.regex_lite.specs.Ahead.{AheadOf, AnswerComesNext, after}
use Rattle.regex_lite.specs.Expression.{Expression}
use Rattle.regex_lite.specs.MatchList.{AreFirstAnswers}
use Rattle.regex_lite_c.specs.Answers.{IsFailure, RefusesText}
use Rattle.regex_lite_c.specs.Kinds.{Kind, of_patterns, of_regex}
use Rattle.regex_lite_c.specs.Spans.{AreWrittenAs}
use Rattle.regex_lite_c.specs.declared.answer.TheConstants.{NO, YES, NO_ROOM}
use Rattle.regex_lite_c.specs.declared.list.types.ListSpan.{ListSpan}
use Rattle.regex_lite_c.specs.declared.types.Span.{Span}
use Rattle.regex_lite_c.specs.declared.types.MatchWalk.{MatchWalk}

-- the end of the last match, if there was one
abbrev pub ended_of : MatchWalk → Option ℕ
ended_of walk = cond walk.is_begun (Some walk.end) None

-- what a walk writes to: its position, and the caller's buffer
pub record WalkBuffer (X : Type 0) : Type 0 where
  pub walk : MatchWalk
  pub buffer : List X

abbrev pub walk_buffer : {X : Type 0} → MatchWalk → List X → WalkBuffer X
walk_buffer walk buffer = record { walk = walk; buffer = buffer }

-- these are the first of the matches ahead, as many as fit, or all if they are fewer, and they were
-- written to the front of the buffer
pub record AreListed {S X T : Type 0} (kind : Kind S X T) (ahead : AheadOf S)
    (old new : List X) (count : ℕ) : Type 0 where
  pub list : List kind.Answer
  pub are_first : AreFirstAnswers kind.found_of
      (kind.IsAnswerTo ahead.sought (chars ahead.haystack)) (length old) ahead.ended list
  pub number : count ≡ length list
  pub written : AreWrittenAs kind.stands_for (map (kind.tell ahead.haystack) list) old new

-- no match is ahead
abbrev pub NoneComes : {S X T : Type 0} → Kind S X T → AheadOf S → Type 0
NoneComes kind ahead = AnswerComesNext kind.found_of kind.IsAnswerTo ahead None

-- the walk continues at the end of the last of this many matches
pub record GoesOnAfterLast {X : Type 0} (end_of : X → ℕ) (written : List X) (count : ℕ)
    (walk : MatchWalk) : Type 0 where
  pub some : 0 < count
  pub end : (k : ℕ) → suc k ≡ count → option_map end_of (slice_get written k) ≡ ended_of walk

-- the answer when a walk over the matches in this text continues
pub record IsWalkAnswerOf {S X T : Type 0} (kind : Kind S X T) (sought : S) (bytes : List ℕ)
    (old new : WalkBuffer X) (count answer : ℕ) : Type 0 where
  pub found : answer ≡ YES
      → AreListed kind (after sought bytes (ended_of old.walk)) old.buffer new.buffer count
      × GoesOnAfterLast kind.end_of new.buffer count new.walk
  pub none : answer ≡ NO → NoneComes kind (after sought bytes (ended_of old.walk))
  pub same : answer ≢ YES → (new.walk ≡ old.walk) × (new.buffer ≡ old.buffer) × (count ≡ 0)
  pub no_room : answer ≡ NO_ROOM → length old.buffer ≡ 0
  pub refused : RefusesText bytes (unwrap_or (ended_of old.walk) 0) answer
  pub one_of : (answer ≤ YES) ⊎ IsFailure answer

-- the answer for a walk over the matches of a regex
abbrev pub IsWalkAnswer : Expression → (bytes : List ℕ) → (old new : WalkBuffer Span)
    → (count answer : ℕ) → Type 0
IsWalkAnswer re bytes old new count answer =
    IsWalkAnswerOf of_regex re bytes old new count answer

-- the answer for a walk over the matches of several patterns
abbrev pub IsListWalkAnswer : List Expression → (bytes : List ℕ) → (old new : WalkBuffer ListSpan)
    → (count answer : ℕ) → Type 0
IsListWalkAnswer list bytes old new count answer =
    IsWalkAnswerOf of_patterns list bytes old new count answer
