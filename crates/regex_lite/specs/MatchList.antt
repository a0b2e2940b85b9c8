-- The list of the matches in a haystack: for any searches, for a regex, and for several patterns.
use Rattle.std.specs.Prelude.{◌≡◌, ◌≢◌, ◌-◌, ◌==◌, ◌&&◌, ℕ, suc, Bool, false, List, []}
use Rattle.std.specs.Prelude.{◌∷◌, Option, Some, None, MatchBool, option_map, zero}
use Rattle.regex_lite_syntax.specs.Text.{Text}
use Rattle.regex_lite_engine.specs.Search.Answer.{Found, IsAnswer}
use Rattle.regex_lite_engine.specs.Search.AnswerOfList.{IsAnswerOfList}
use Rattle.regex_lite.specs.Expression.{Expression, OfTree}
use Rattle.regex_lite.specs.RegexList.{OfTrees}

-- the answer of a search for the pattern from position s on
abbrev pub IsAnswerOf : Expression → Text → (s : ℕ) → Option Found → Type 0
IsAnswerOf re haystack s found = OfTree re (λ tree. IsAnswer tree haystack s found)

-- the answer of a search for several patterns: the number of one, and what was found of it
abbrev pub IsAnswerOfPatterns : List Expression → Text → (s : ℕ) → Option (ℕ × Found) → Type 0
IsAnswerOfPatterns list haystack s answer =
    OfTrees list (λ trees. IsAnswerOfList trees haystack s answer)

-- how many matches may follow one match, if there is a limit
abbrev pub one_less : (limit : Option ℕ) → Option ℕ
one_less limit = option_map (λ n. n - 1) limit

-- there is an answer, and its match is empty and lies at position p
abbrev pub is_empty_answer : {A : Type 0} → (found_of : A → Found) → (p : ℕ) → Option A → Bool
is_empty_answer found_of p None = false
is_empty_answer found_of p (Some answer) =
    (found_of answer).start == p && (found_of answer).end == p

-- Searches of a haystack are characterised by their answers from each position on; `found_of` is
-- the match of an answer
module _ {A : Type 0} (found_of : A → Found) (Answers : (s : ℕ) → Option A → Type 0) where
  -- The answer that follows a match that ended at this position. It is the answer from there, but
  -- if that is empty and lies right there, the answer from the next character. The first answer is
  -- the one from the haystack's start
  abbrev pub IsNextAnswer : (ended : Option ℕ) → Option A → Type 0
  IsNextAnswer None answer = Answers 0 answer
  IsNextAnswer (Some end) answer =
      (from_end : Option A) × Answers end from_end
      × MatchBool (is_empty_answer found_of end from_end) (Answers (suc end) answer)
      (answer ≡ from_end)

  -- these are all answers after a match that ended at this position
  abbrev pub AreAnswers : (ended : Option ℕ) → List A → Type 0
  AreAnswers ended [] = IsNextAnswer ended None
  AreAnswers ended (answer ∷ list) =
      IsNextAnswer ended (Some answer) × AreAnswers (Some (found_of answer).end) list

  -- these are the first answers after a match that ended there: this many, or all if they are fewer
  abbrev pub AreFirstAnswers : (count : ℕ) → (ended : Option ℕ) → List A → Type 0
  AreFirstAnswers zero ended list = list ≡ []
  AreFirstAnswers (suc count) ended [] = IsNextAnswer ended None
  AreFirstAnswers (suc count) ended (answer ∷ list) =
      IsNextAnswer ended (Some answer)
      × AreFirstAnswers count (Some (found_of answer).end) list

  -- these are the answers after a match that ended there, up to a limit if there is one
  abbrev pub AreAnswersWithin : (limit : Option ℕ) → (ended : Option ℕ) → List A → Type 0
  AreAnswersWithin None ended list = AreAnswers ended list
  AreAnswersWithin (Some count) ended list = AreFirstAnswers count ended list

  -- these are some of those answers, from the first on
  abbrev pub AreSomeAnswersWithin : (limit : Option ℕ) → (ended : Option ℕ) → List A → Type 0
  AreSomeAnswersWithin limit ended [] = Unit {0}
  AreSomeAnswersWithin limit ended (answer ∷ list) =
      (limit ≢ Some 0) × IsNextAnswer ended (Some answer)
      × AreSomeAnswersWithin (one_less limit) (Some (found_of answer).end) list

-- The definitions above for searches for a pattern, whose answers are the matches
module _ (re : Expression) (haystack : Text) where
  -- the match that follows one that ended at this position, or the first match
  abbrev pub IsNext : (ended : Option ℕ) → Option Found → Type 0
  IsNext ended found = IsNextAnswer (λ own. own) (IsAnswerOf re haystack) ended found

  -- these are all matches after one that ended at this position
  abbrev pub AreMatches : (ended : Option ℕ) → List Found → Type 0
  AreMatches ended list = AreAnswers (λ own. own) (IsAnswerOf re haystack) ended list

  -- these are the first matches after one that ended there: this many, or all if they are fewer
  abbrev pub AreFirst : (count : ℕ) → (ended : Option ℕ) → List Found → Type 0
  AreFirst count ended list =
      AreFirstAnswers (λ own. own) (IsAnswerOf re haystack) count ended list

  -- these are the matches after one that ended there, up to a limit if there is one
  abbrev pub AreWithin : (limit : Option ℕ) → (ended : Option ℕ) → List Found → Type 0
  AreWithin limit ended list =
      AreAnswersWithin (λ own. own) (IsAnswerOf re haystack) limit ended list

  -- these are some of those matches, from the first on
  abbrev pub AreSomeWithin : (limit : Option ℕ) → (ended : Option ℕ) → List Found → Type 0
  AreSomeWithin limit ended list =
      AreSomeAnswersWithin (λ own. own) (IsAnswerOf re haystack) limit ended list

-- The definitions above for searches for several patterns, whose answers are the number of a
-- pattern and what was found of it. Where the search for the next match starts is independent of
-- the numbers
module _ (list : List Expression) (haystack : Text) where
  -- the answer that follows a match that ended at this position, or the first answer
  abbrev pub IsNextOfList : (ended : Option ℕ) → Option (ℕ × Found) → Type 0
  IsNextOfList ended answer =
      IsNextAnswer (λ own. own.1) (IsAnswerOfPatterns list haystack) ended answer
