-- What the calls for searchers with a text return.
use Rattle.std.specs.Prelude.{◌≡◌, ◌≢◌, ◌⊎◌, ◌↔◌, ℕ, List, [], Option, Some, None, IsUtf8}
use Rattle.std.specs.Prelude.{chars, false, length}
use Rattle.regex_lite_syntax.specs.Tree.Properties.{captures_len}
use Rattle.regex_lite.specs.Anchored.{TellsAnswerAt}
use Rattle.regex_lite.specs.Expression.{Expression}
use Rattle.regex_lite.specs.Groups.{Groups}
use Rattle.regex_lite.specs.Searches.{TellsAnswer, spans_from}
use Rattle.regex_lite_c.specs.GroupAnswers.{IsGroupsAnswerOf}
use Rattle.regex_lite_c.specs.Searchers.{TextSearch}
use Rattle.regex_lite_c.specs.declared.answer.TheConstants.{NOT_TEXT, OUT_OF_MEMORY, YES}
use Rattle.regex_lite_c.specs.declared.types.Span.{Span}

-- the regex went from its handle to the searcher, which has an empty text; or memory ran out, and
-- it is still in its handle
pub record IsMoveAnswer (re : Expression) (searcher : Option TextSearch)
    (regex : Option Expression) (answer : ℕ) : Type 0 where
  pub moved : answer ≡ YES → (searcher ≡ Some (record { re = re; text = [] })) × (regex ≡ None)
  pub refused : answer ≢ YES → (searcher ≡ None) × (regex ≡ Some re)
  pub one_of : (answer ≡ YES) ⊎ (answer ≡ OUT_OF_MEMORY)

-- the bytes are the text from now on; or they aren't valid UTF-8, or memory ran out, and the text
-- is unchanged
pub record IsReadAnswer (own : TextSearch) (bytes : List ℕ) (new : Option TextSearch)
    (answer : ℕ) : Type 0 where
  pub read : answer ≡ YES → new ≡ Some (record { re = own.re; text = bytes })
  pub same : answer ≢ YES → new ≡ Some own
  pub not_text : (answer ≡ NOT_TEXT) ↔ (IsUtf8 bytes → ⊥)
  pub one_of : (answer ≡ YES) ⊎ ((answer ≡ NOT_TEXT) ⊎ (answer ≡ OUT_OF_MEMORY))

-- a search for the pattern from this offset on returns the spans of all groups of its match
abbrev pub TellsSpans : Expression → (haystack : List ℕ) → (start : ℕ)
    → Option (List (Option (ℕ × ℕ))) → Type 0
TellsSpans re haystack start reported =
    TellsAnswer (λ tree found spans.
    spans ≡ spans_from (chars haystack) found.marks 0 (captures_len tree)) re haystack start
    reported

-- these are the spans of the groups of the match that starts first from this offset on, `count` of
-- them; their names aren't returned
abbrev pub AreFirstSpans : Expression → (haystack : List ℕ) → (start : ℕ) → (count : ℕ) → Groups
    → Type 0
AreFirstSpans re haystack start count groups =
    TellsSpans re haystack start (Some groups.spans) × (count ≡ length groups.spans)

-- what a search for the groups of a match returns
abbrev pub IsSpansAnswer : TextSearch → (start : ℕ) → (old new : List Span)
    → (old_count count answer : ℕ) → Type 0
IsSpansAnswer own start old new old_count count answer =
    IsGroupsAnswerOf (AreFirstSpans own.re own.text start) (TellsSpans own.re own.text start None)
    own.text start old new old_count count answer

-- an anchored search for the pattern at this offset returns the spans of all groups of its match
abbrev pub TellsSpansAt : Expression → (haystack : List ℕ) → (start : ℕ)
    → Option (List (Option (ℕ × ℕ))) → Type 0
TellsSpansAt re haystack start reported =
    TellsAnswerAt false (λ tree found spans.
    spans ≡ spans_from (chars haystack) found.marks 0 (captures_len tree)) re haystack start
    reported

abbrev pub AreSpansAt : Expression → (haystack : List ℕ) → (start : ℕ) → (count : ℕ) → Groups
    → Type 0
AreSpansAt re haystack start count groups =
    TellsSpansAt re haystack start (Some groups.spans) × (count ≡ length groups.spans)

abbrev pub IsSpansAnswerAt : TextSearch → (start : ℕ) → (old new : List Span)
    → (old_count count answer : ℕ) → Type 0
IsSpansAnswerAt own start old new old_count count answer =
    IsGroupsAnswerOf (AreSpansAt own.re own.text start) (TellsSpansAt own.re own.text start None)
    own.text start old new old_count count answer
