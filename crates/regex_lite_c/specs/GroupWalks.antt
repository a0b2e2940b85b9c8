-- What is returned for the groups of all matches in a text, in batches.
use Rattle.std.specs.Prelude.{◌≡◌, ◌≢◌, ◌⊎◌, ◌+◌, ◌<◌, ◌≤◌, ◌++◌, ℕ, true, cond, List, [], ◌∷◌}
use Rattle.std.specs.Prelude.{Option, Some, chars, flat_map, length, map, unwrap_or}
use Rattle.std.specs.List.{All}
use Rattle.regex_lite.specs.Ahead.{AheadOf, AnswerComesNext, after}
use Rattle.regex_lite.specs.Expression.{Expression}
use Rattle.regex_lite.specs.Groups.{Groups, whole_span}
use Rattle.regex_lite.specs.MatchList.{AreFirstAnswers}
use Rattle.regex_lite_c.specs.Answers.{IsFailure, RefusesText}
use Rattle.regex_lite_c.specs.Kinds.{Kind, of_patterns, of_regex}
use Rattle.regex_lite_c.specs.Spans.{AreWritten, AreWrittenAs}
use Rattle.regex_lite_c.specs.Walks.{NoneComes, WalkBuffer, ended_of}
use Rattle.regex_lite_c.specs.declared.answer.TheConstants.{NO, YES, NO_ROOM, OUT_OF_MEMORY}
use Rattle.regex_lite_c.specs.declared.list.types.ListGroups.{ListGroups}
use Rattle.regex_lite_c.specs.declared.types.Span.{Span}
use Rattle.regex_lite_c.specs.declared.types.MatchWalk.{MatchWalk}

-- what a walk over groups writes to: its position, the buffer for what is written of each match,
-- and the buffer for spans
pub record GroupBuffer (T : Type 0) : Type 0 where
  pub walk : MatchWalk
  pub reported : List T
  pub buffer : List Span

abbrev pub group_buffer : {T : Type 0} → MatchWalk → List T → List Span → GroupBuffer T
group_buffer walk reported buffer = record { walk = walk; reported = reported; buffer = buffer }

-- the spans of all these groups, those of one answer after another
abbrev pub spans_of_all : {A : Type 0} → List (A × Groups) → List (Option (ℕ × ℕ))
spans_of_all list = flat_map (λ own. own.1.spans) list

module _ {S X T : Type 0} (kind : Kind S X T) where
  -- what is written of the groups of an answer besides their spans
  abbrev pub reported_of_groups : kind.Answer × Groups → T
  reported_of_groups own = kind.groups_reported own.0 (length own.1.spans)

  -- these are the first answers ahead: this many, or all if they are fewer
  abbrev pub AreFirstAnswered : AheadOf S → (count : ℕ) → List (kind.Answer × Groups) → Type 0
  AreFirstAnswered ahead count list =
      AreFirstAnswers kind.found_of (kind.IsAnswerTo ahead.sought (chars ahead.haystack)) count
      ahead.ended (map (λ own. own.0) list)

  -- the groups are those of the answer
  abbrev pub AreItsGroups : AheadOf S → kind.Answer × Groups → Type 0
  AreItsGroups ahead own = kind.AreGroups ahead.sought ahead.haystack own.0 own.1

  -- the groups of this many matches, the first of those ahead, were written to the front of the
  -- buffer, with what is written of each match, and the walk continues at the end of the last of
  -- them
  pub record AreGroupsListed (ahead : AheadOf S) (old new : GroupBuffer T) (count : ℕ)
      : Type 0 where
    pub list : List (kind.Answer × Groups)
    pub are_first : AreFirstAnswered ahead count list
    pub number : count ≡ length list
    pub each : All (AreItsGroups ahead) list
    pub reported : kind.is_reported ≡ true → AreWrittenAs reported_of_groups list old.reported
        new.reported
    pub written : AreWritten (spans_of_all list) old.buffer new.buffer
    pub front : List (kind.Answer × Groups)
    pub last : kind.Answer × Groups
    pub ends : list ≡ front ++ (last ∷ [])
    pub end : ended_of new.walk ≡ Some (whole_span last.1).1

  -- the buffer for what is written of each match is full after this many
  abbrev pub IsFull : (reported : List T) → (count : ℕ) → Type 0
  IsFull reported count = (kind.is_reported ≡ true) × (length reported ≡ count)

  -- after these matches none is ahead; or the groups of the next one need more room than is left,
  -- or there is no room for what is written of it
  abbrev pub NoMoreFit : AheadOf S → (old : GroupBuffer T) → List (kind.Answer × Groups) → Type 0
  NoMoreFit ahead old list =
      AreFirstAnswered ahead (length list + 1) list
      ⊎ ((next : kind.Answer × Groups)
      × AreFirstAnswered ahead (length list + 1) (list ++ (next ∷ [])) × AreItsGroups ahead next
      × (IsFull old.reported (length list)
      ⊎ (length old.buffer < length (spans_of_all list) + length next.1.spans)))

  -- the groups of as many matches as fit were written, or of all that are left
  pub record AreAllThatFit (ahead : AheadOf S) (old new : GroupBuffer T) (count : ℕ)
      : Type 0 where
    pub listed : AreGroupsListed ahead old new count
    pub no_more : NoMoreFit ahead old listed.list

  -- there is a next match, and the buffer is too small for its groups; their number is written if
  -- something is written of each match
  abbrev pub IsWithoutBuffer : AheadOf S → (old : GroupBuffer T) → (number : ℕ) → Type 0
  IsWithoutBuffer ahead old number =
      (next : kind.Answer × Groups)
      × AnswerComesNext kind.found_of kind.IsAnswerTo ahead (Some next.0)
      × AreItsGroups ahead next × (number ≡ cond kind.is_reported (length next.1.spans) 0)
      × (IsFull old.reported 0 ⊎ (length old.buffer < length next.1.spans))

  -- the answer when groups are written as long as there is room; if memory runs out, those of the
  -- matches before were written
  pub record IsFilled (ahead : AheadOf S) (old new : GroupBuffer T) (count answer : ℕ)
      : Type 0 where
    pub found : answer ≡ YES → AreAllThatFit ahead old new count × (0 < count)
    pub none : answer ≡ NO → NoneComes kind ahead
    pub no_room : answer ≡ NO_ROOM → IsWithoutBuffer ahead old count
    pub part : answer ≡ OUT_OF_MEMORY → 0 < count → AreGroupsListed ahead old new count
    pub no_count : answer ≢ YES → answer ≢ NO_ROOM → answer ≢ OUT_OF_MEMORY → count ≡ 0
    pub same : (answer ≡ NO_ROOM) ⊎ (count ≡ 0) → new ≡ old

  -- the answer when a walk over the groups of this text's matches continues
  pub record IsGroupWalkAnswerOf (sought : S) (bytes : List ℕ) (old new : GroupBuffer T)
      (count answer : ℕ) : Type 0 where
    pub filled : IsFilled (after sought bytes (ended_of old.walk)) old new count answer
    pub refused : RefusesText bytes (unwrap_or (ended_of old.walk) 0) answer
    pub one_of : (answer ≤ YES) ⊎ IsFailure answer

-- the answer for a regex, for whose matches only the spans of the groups are written
abbrev pub IsGroupWalkAnswer : Expression → (bytes : List ℕ) → (old new : WalkBuffer Span)
    → (count answer : ℕ) → Type 0
IsGroupWalkAnswer re bytes old new count answer =
    IsGroupWalkAnswerOf of_regex re bytes (group_buffer old.walk [] old.buffer)
    (group_buffer new.walk [] new.buffer) count answer

-- the answer for several patterns, with what is written of each match
abbrev pub list_group_buffer : MatchWalk → List ListGroups → List Span → GroupBuffer ListGroups
list_group_buffer walk reported buffer = group_buffer walk reported buffer

abbrev pub IsListGroupWalkAnswer : List Expression → (bytes : List ℕ)
    → (old new : GroupBuffer ListGroups) → (count answer : ℕ) → Type 0
IsListGroupWalkAnswer list bytes old new count answer =
    IsGroupWalkAnswerOf of_patterns list bytes old new count answer
