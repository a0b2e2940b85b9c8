-- Searchers, and scans over the matches in a haystack.
use Rattle.std.specs.Prelude.{◌≡◌, ℕ, List, [], ◌∷◌, Option, Some, IfSome, IsTrue, chars, max}
use Rattle.regex_lite_syntax.specs.Tree.{Tree}
use Rattle.regex_lite_syntax.specs.Tree.Properties.{captures_len}
use Rattle.regex_lite_engine.specs.Graph.SideBySide.{AreRegularPatterns}
use Rattle.regex_lite_engine.specs.Graph.StoredList.{IsGraphOfList}
use Rattle.regex_lite_engine.specs.Search.Answer.{Found}
use Rattle.regex_lite_engine.specs.Search.Offsets.{HasSlots, search_start}
use Rattle.regex_lite_engine.specs.Search.Outcomes.{IsOutcomeOfList}
use Rattle.regex_lite_engine.specs.declared.search.outcome.Outcome.{Outcome}
use Rattle.regex_lite_meta.specs.Searching as engine
use Rattle.regex_lite.specs.declared.string.iter.cursor.Cursor.{Cursor}
use Rattle.regex_lite.specs.declared.string.matches.Match.{Match}
use Rattle.regex_lite.specs.Answers.{IsEmptyAnswerFrom, TellsOfAnswer}
use Rattle.regex_lite.specs.Expression.{Expression, OfTree}
use Rattle.regex_lite.specs.MatchList.{IsAnswerOf, IsAnswerOfPatterns}
use Rattle.regex_lite.specs.RegexList.{OfTrees}
use Rattle.regex_lite.specs.Searches.{IsMatchOf, offsets}
use Rattle.regex_lite.specs.Slots.{kept_slots}

-- a regex, and the slots of the last match that was found
pub record RegexSearching : Type 0 where
  pub regex : Expression
  pub slots : List (Option ℕ)

-- several patterns, and the slots of the last match that was found
pub record ListSearching : Type 0 where
  pub list : List Expression
  pub slots : List (Option ℕ)

-- a scan: the finder of matches, the haystack as its bytes, how many more matches may come, if that
-- is limited, and the offset at which the last one ended
pub record Scanning (F : Type 0) : Type 0 where
  pub finder : F
  pub haystack : List ℕ
  pub limit : Option ℕ
  pub ended : Option ℕ

-- the scan with what is searched for, a regex or several patterns, in place of the finder:
-- contracts see an iterator over matches like this
abbrev pub seen_by : {F S : Type 0} → (sought : F → S) → Scanning F → Scanning S
seen_by sought scan = record {
  finder = sought scan.finder;
  haystack = scan.haystack;
  limit = scan.limit;
  ended = scan.ended;
}

-- what is searched is the graph of the patterns' trees
abbrev pub SearchesForList : List Expression → engine.ListSearching → Type 0
SearchesForList list searcher =
    OfTrees list (λ trees. AreRegularPatterns trees × IsGraphOfList trees searcher.graph)

-- what is returned is the span of what was found, with the number of its pattern, and these are
-- its slots
pub record IsSpanWithSlots {A N : Type 0} (found_of : A → Found) (number_of : A → N)
    (haystack : List ℕ) (slots : List (Option ℕ)) (answer : A) (reported : N × (ℕ × ℕ))
    : Type 0 where
  pub number : reported.0 ≡ number_of answer
  pub span : reported.1 ≡ offsets (chars haystack) ((found_of answer).start, (found_of answer).end)
  pub has_slots : HasSlots (chars haystack) slots (found_of answer).marks

-- the span and the slots that a search for a pattern from this offset on returns
abbrev pub TellsSpan : Expression → (haystack : List ℕ) → (start : ℕ)
    → (slots : List (Option ℕ)) → Option (Unit {0} × (ℕ × ℕ)) → Type 0
TellsSpan re haystack start slots reported =
    TellsOfAnswer (IsAnswerOf re (chars haystack))
    (IsSpanWithSlots (λ own. own) (λ own. tt {0}) haystack slots) (search_start haystack start)
    reported

-- the span and the slots that a search for several patterns from this offset on returns
abbrev pub TellsListSpan : List Expression → (haystack : List ℕ) → (start : ℕ)
    → (slots : List (Option ℕ)) → Option (ℕ × (ℕ × ℕ)) → Type 0
TellsListSpan list haystack start slots reported =
    TellsOfAnswer (IsAnswerOfPatterns list (chars haystack))
    (IsSpanWithSlots (λ own. own.1) (λ own. own.0) haystack slots) (search_start haystack start)
    reported

-- what is returned is the match that was found, with the number of its pattern, and these are its
-- slots
pub record IsMatchWithSlots {A N : Type 0} (found_of : A → Found) (number_of : A → N)
    (haystack : List ℕ) (slots : List (Option ℕ)) (answer : A) (reported : N × Match) : Type 0 where
  pub number : reported.0 ≡ number_of answer
  pub is_match : IsMatchOf haystack (found_of answer) reported.1
  pub has_slots : HasSlots (chars haystack) slots (found_of answer).marks

-- the match and the slots that a search for several patterns from this offset on returns
abbrev pub TellsListMatch : List Expression → (haystack : List ℕ) → (start : ℕ)
    → (slots : List (Option ℕ)) → Option (ℕ × Match) → Type 0
TellsListMatch list haystack start slots reported =
    TellsOfAnswer (IsAnswerOfPatterns list (chars haystack))
    (IsMatchWithSlots (λ own. own.1) (λ own. own.0) haystack slots) (search_start haystack start)
    reported

-- what is returned is the answer of some search of the haystack, and these are its slots
abbrev pub IsMatchOfSearch : {A N : Type 0} → (found_of : A → Found) → (number_of : A → N)
    → (Answers : (s : ℕ) → Option A → Type 0) → (haystack : List ℕ)
    → (slots : List (Option ℕ)) → A → N × Match → Type 0
IsMatchOfSearch found_of number_of Answers haystack slots answer reported =
    (s : ℕ) × Answers s (Some answer)
    × IsMatchWithSlots found_of number_of haystack slots answer reported

-- if the last match was empty, the answer from its end is empty there
abbrev pub IsAfterAnswer : {A : Type 0} → (found_of : A → Found)
    → (Answers : (s : ℕ) → Option A → Type 0) → Cursor → Type 0
IsAfterAnswer found_of Answers cursor =
    IsTrue cursor.was_empty
    → IfSome cursor.ended (IsEmptyAnswerFrom found_of Answers cursor.haystack.now)

-- this many slots are kept for the groups
abbrev pub AreSlotsForGroups : Expression → (slots : ℕ) → Type 0
AreSlotsForGroups re slots = OfTree re (λ tree. slots ≡ kept_slots (captures_len tree))

-- a search for the patterns from this offset on has this result
abbrev pub TellsOutcomeOfList : List Expression → (haystack : List ℕ) → (start : ℕ)
    → Option (ℕ × Outcome) → Type 0
TellsOutcomeOfList list haystack start reported =
    OfTrees list (λ trees. IsOutcomeOfList trees haystack start reported)

-- the number of groups of the pattern with the most
abbrev pub most_captures : List Tree → ℕ
most_captures [] = 0
most_captures (tree ∷ trees) = max (captures_len tree) (most_captures trees)

-- this many slots are kept for the groups of the pattern with the most
abbrev pub AreSlotsForAllGroups : List Expression → (slots : ℕ) → Type 0
AreSlotsForAllGroups list slots =
    OfTrees list (λ trees. slots ≡ kept_slots (most_captures trees))
