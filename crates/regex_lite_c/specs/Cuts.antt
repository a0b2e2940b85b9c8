-- What is returned for the pieces of a text before, between and after its matches, in batches.
use Rattle.std.specs.Prelude.{◌≡◌, ◌≢◌, ◌⊎◌, ◌<◌, ◌≤◌, ◌++◌, ℕ, List, [], ◌∷◌, Bool, false}
use Rattle.std.specs.Prelude.{Option, Some, IsTrue, chars, cond, length, map, unwrap_or}
use Rattle.regex_lite_engine.specs.Search.Answer.{Found}
use Rattle.regex_lite.specs.Ahead.{Ahead, after}
use Rattle.regex_lite.specs.Expression.{Expression}
use Rattle.regex_lite.specs.MatchList.{AreFirst}
use Rattle.regex_lite.specs.Pieces.{found_span}
use Rattle.regex_lite_c.specs.Answers.{IsFailure, RefusesText}
use Rattle.regex_lite_c.specs.Spans.{AreWritten}
use Rattle.regex_lite_c.specs.Walks.{ended_of}
use Rattle.regex_lite_c.specs.declared.answer.TheConstants.{NO, YES, NO_ROOM}
use Rattle.regex_lite_c.specs.declared.types.Cut.{Cut}
use Rattle.regex_lite_c.specs.declared.types.Span.{Span}

-- the end of the last of these spans, which follow one that ended at `ended`
abbrev pub last_end : (ended : Option ℕ) → List (ℕ × ℕ) → Option ℕ
last_end ended [] = ended
last_end ended (span ∷ spans) = last_end (Some span.1) spans

-- the piece before each span: from the end of the one before it, or from the start on
abbrev pub pieces_before : (ended : Option ℕ) → List (ℕ × ℕ) → List (Option (ℕ × ℕ))
pieces_before ended [] = []
pieces_before ended (span ∷ spans) =
    Some (unwrap_or ended 0, span.0) ∷ pieces_before (Some span.1) spans

-- the piece after the last span in a text of this many bytes
abbrev pub rest_after : (ended : Option ℕ) → List (ℕ × ℕ) → (bytes : ℕ) → Option (ℕ × ℕ)
rest_after ended spans bytes = Some (unwrap_or (last_end ended spans) 0, bytes)

-- the pieces before the spans, and the last piece if the cut is over
abbrev pub pieces_of : (ended : Option ℕ) → List (ℕ × ℕ) → (bytes : ℕ) → (is_over : Bool)
    → List (Option (ℕ × ℕ))
pieces_of ended spans bytes is_over =
    pieces_before ended spans ++ cond is_over (rest_after ended spans bytes ∷ []) []

abbrev pub spans_in : (haystack : List ℕ) → List Found → List (ℕ × ℕ)
spans_in haystack list = map (found_span (chars haystack)) list

-- the pieces before the first of the matches ahead were written to the front of the buffer, as many
-- as fit, and the last piece too if all matches came before the buffer was full; the cut continues
-- at the end of the last of these matches
pub record ArePiecesListed (ahead : Ahead) (ended : Option ℕ) (cut : Cut) (old new : List Span)
    (count : ℕ) : Type 0 where
  pub list : List Found
  pub are_first : AreFirst ahead.sought (chars ahead.haystack) (length old) ahead.ended list
  pub over : IsTrue cut.is_over → length list < length old
  pub full : cut.is_over ≡ false → length list ≡ length old
  pub written : AreWritten
      (pieces_of ended (spans_in ahead.haystack list) (length ahead.haystack) cut.is_over) old new
  pub number : count
      ≡ length (pieces_of ended (spans_in ahead.haystack list) (length ahead.haystack) cut.is_over)
  pub goes_on : ended_of cut.walk ≡ last_end ended (spans_in ahead.haystack list)

-- the answer when the cutting of this text continues
pub record IsCutAnswer (re : Expression) (bytes : List ℕ) (old_cut cut : Cut)
    (old new : List Span) (count answer : ℕ) : Type 0 where
  pub found : answer ≡ YES
      → ArePiecesListed (after re bytes (ended_of old_cut.walk)) (ended_of old_cut.walk) cut old
      new count
      × (0 < count)
  pub none : answer ≡ NO → IsTrue old_cut.is_over
  pub left : (answer ≡ YES) ⊎ (answer ≡ NO_ROOM) → old_cut.is_over ≡ false
  pub same : answer ≢ YES → (cut ≡ old_cut) × (new ≡ old) × (count ≡ 0)
  pub no_room : answer ≡ NO_ROOM → length old ≡ 0
  pub refused : RefusesText bytes (unwrap_or (ended_of old_cut.walk) 0) answer
  pub one_of : (answer ≤ YES) ⊎ IsFailure answer
