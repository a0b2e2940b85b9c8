-- Several patterns that are plain words: what a search for them finds.
use Rattle.std.specs.Prelude.{◌↔◌, ℕ, [], List, Option, IsCharBoundary, IsUtf8, chars, length}
use Rattle.regex_lite_syntax.specs.Text.{Text}
use Rattle.regex_lite_syntax.specs.Prefilter.NumberedWords.{HavePatterns, IsNextOfPatterns}
use Rattle.regex_lite_syntax.specs.Prefilter.NumberedWords.{NumberedWords, PatternStandsFrom}
use Rattle.regex_lite_syntax.specs.Prefilter.Words.{AnyStandsAt}
use Rattle.regex_lite_engine.specs.Graph.Places.{Place}
use Rattle.regex_lite_engine.specs.Search.NumberedList.{IsMatchOfAny}
use Rattle.regex_lite_engine.specs.Search.NumberedOutcomes.{IsBestOutcomeOf, numbered_at}
use Rattle.regex_lite_engine.specs.Search.NumberedOutcomes.{with_match_start_kept}
use Rattle.regex_lite_engine.specs.Search.Offsets.{position_at}

-- from each position a search for the patterns with these entries finds the next of the words
abbrev pub AreAnsweredBy : List (Place ℕ) → (entries : List ℕ) → NumberedWords → Type 0
AreAnsweredBy table entries words =
    (bytes : List ℕ) (from : ℕ) (reported : Option (ℕ × (ℕ × ℕ))) → IsUtf8 bytes
    → IsCharBoundary bytes from → IsNextOfPatterns words bytes from reported
    → IsBestOutcomeOf table (chars bytes) entries (position_at bytes from)
    (with_match_start_kept (numbered_at reported []))

-- the pattern with this number has a match from a position at or after s
abbrev pub HasMatchOfNumber : List (Place ℕ) → Text → (entries : List ℕ) → (s number : ℕ) → Type 0
HasMatchOfNumber table haystack entries s number =
    (i : ℕ) × (way : List ℕ) × (q : ℕ) × (j : ℕ)
    × IsMatchOfAny table haystack entries s i number way q j

-- Each word has a pattern. A pattern matches from a position on exactly if one of its words occurs
-- from there on, and wherever a match begins a word occurs
pub record IsEachAnsweredBy (table : List (Place ℕ)) (entries : List ℕ) (words : NumberedWords)
    : Type 0 where
  pub patterns : HavePatterns words (length entries)
  pub matches : (bytes : List ℕ) (from number : ℕ) → IsUtf8 bytes → IsCharBoundary bytes from
      → PatternStandsFrom words bytes from number
      ↔ HasMatchOfNumber table (chars bytes) entries (position_at bytes from) number
  pub stands : (bytes : List ℕ) (from k : ℕ) (way : List ℕ) (q j : ℕ) → IsUtf8 bytes
      → IsCharBoundary bytes from
      → IsMatchOfAny table (chars bytes) entries (position_at bytes from) (position_at bytes from)
      k way q j
      → AnyStandsAt words.words bytes from
