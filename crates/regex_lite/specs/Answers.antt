-- The answers of searches, and what is returned of them, for one pattern or several.
use Rattle.std.specs.Prelude.{◌≡◌, ◌≤◌, ℕ, true, List, Option, Some, None, IfSome, length}
use Rattle.regex_lite_syntax.specs.Text.{Text}
use Rattle.regex_lite_engine.specs.Search.Answer.{Found}
use Rattle.regex_lite_engine.specs.Search.Offsets.{position_at}
use Rattle.regex_lite.specs.declared.string.matches.Match.{Match}
use Rattle.regex_lite.specs.MatchList.{is_empty_answer}
use Rattle.regex_lite.specs.MatchViews.{span_of_match}

-- what is found lies in the haystack, at or after position s, from which the search starts
pub record IsWithin (haystack : Text) (s : ℕ) (found : Found) : Type 0 where
  pub from : s ≤ found.start
  pub ordered : found.start ≤ found.end
  pub inside : found.end ≤ length haystack

-- the properties of answers that the laws of match lists need
pub record AreLawful {A : Type 0} (found_of : A → Found) (haystack : Text)
    (Answers : (s : ℕ) → Option A → Type 0) : Type 0 where
  pub within : (s : ℕ) (answer : A) → Answers s (Some answer)
      → IsWithin haystack s (found_of answer)
  -- an answer is also the answer from any later position up to its start
  pub further : (s p : ℕ) (answer : A) → s ≤ p → p ≤ (found_of answer).start
      → Answers s (Some answer) → Answers p (Some answer)
  pub one : (s : ℕ) (answer other : Option A) → Answers s answer → Answers s other → answer ≡ other

-- what is returned of the answer from position s on: nothing if nothing is found, and otherwise a
-- value of which `says` holds for the answer
abbrev pub TellsOfAnswer : {A T : Type 0} → (Answers : (s : ℕ) → Option A → Type 0)
    → (says : A → T → Type 0) → (s : ℕ) → Option T → Type 0
TellsOfAnswer Answers says s None = Answers s None
TellsOfAnswer {A} Answers says s (Some reported) =
    (answer : A) × Answers s (Some answer) × says answer reported

-- the answer from this offset on is empty there
abbrev pub IsEmptyAnswerFrom : {A : Type 0} → (found_of : A → Found)
    → (Answers : (s : ℕ) → Option A → Type 0) → (haystack : List ℕ) → (at : ℕ) → Type 0
IsEmptyAnswerFrom {A} found_of Answers haystack at =
    (answer : A) × Answers (position_at haystack at) (Some answer)
    × (is_empty_answer found_of (position_at haystack at) (Some answer) ≡ true)

-- where the match that is returned is empty, the answer from there is empty there
abbrev pub IsAnswerWhereEmpty : {A N : Type 0} → (found_of : A → Found)
    → (Answers : (s : ℕ) → Option A → Type 0) → (haystack : List ℕ) → Option (N × Match) → Type 0
IsAnswerWhereEmpty found_of Answers haystack reported =
    IfSome reported (λ own. (span_of_match own.1).0 ≡ (span_of_match own.1).1
    → IsEmptyAnswerFrom found_of Answers haystack (span_of_match own.1).1)
