-- Where a match can begin in a graph, and the positions that a search skips.
use Rattle.std.specs.Prelude.{◌≡◌, ◌≤◌, ◌<◌, ◌^◌, ◌⊎◌, ℕ, suc, Bool, false, true, not, All}
use Rattle.std.specs.Prelude.{List, [], ◌∷◌, length, map, slice_get, slice_index, slice_index_or}
use Rattle.std.specs.Prelude.{IfSome, IsCharBoundary, IsTrue, IsUtf8, Option, Some, chars}
use Rattle.std.specs.Prelude.{option_map}
use Rattle.regex_lite_syntax.specs.Text.{Text, after}
use Rattle.regex_lite_syntax.specs.Tree.{Tree}
use Rattle.regex_lite_syntax.specs.Tree.Properties.{nullable}
use Rattle.regex_lite_syntax.specs.declared.prefilter.prefix_index.PrefixIndex.{PrefixIndex}
use Rattle.regex_lite_engine.specs.declared.search.here.Here.{Here}
use Rattle.regex_lite_engine.specs.declared.search.patterns.Start.{Start}
use Rattle.regex_lite_engine.specs.Graph.Places.{Place}
use Rattle.regex_lite_syntax.specs.Prefilter.StartFacts.{NeverStarts, StartFacts}
use Rattle.regex_lite_syntax.specs.declared.prefilter.words.letter.Letter.{Letter}
use Rattle.regex_lite_syntax.specs.Prefilter.WholeWords.{IsNextSpan}
use Rattle.regex_lite_syntax.specs.Prefilter.PrefixIndex.{may_start_at, IsWalkable}
use Rattle.regex_lite_syntax.specs.Prefilter.FirstSet.{MayBegin}
use Rattle.regex_lite_syntax.specs.Prefilter.ThirdMasks.{may_go_on}
use Rattle.regex_lite_engine.specs.Search.Explored.{IsDead}
use Rattle.regex_lite_engine.specs.Search.NumberedAnswer.{numbered_step, is_end}
use Rattle.regex_lite_engine.specs.Search.NumberedList.{IsEntry}
use Rattle.regex_lite_engine.specs.Search.NumberedOutcomes.{IsNumberedEndOf, IsNumberedOutcome}
use Rattle.regex_lite_engine.specs.Search.NumberedOutcomes.{best_at}
use Rattle.regex_lite_engine.specs.Search.Offsets.{position_at}
use Rattle.regex_lite_engine.specs.Search.OutcomeOfOne.{ending_at}
use Rattle.regex_lite_engine.specs.Search.Here.{IsHere}

module _ (table : List (Place ℕ)) where
  -- no match of the pattern with entry s can start at the position
  abbrev pub IsDeadAt : Text → (s p : ℕ) → Type 0
  IsDeadAt haystack s p =
      IsDead (ℕ × ℕ) (numbered_step table haystack) (is_end table haystack) (s, p)

  -- no match of any pattern can start at the position
  abbrev pub AreDeadAt : Text → (entries : List ℕ) → (p : ℕ) → Type 0
  AreDeadAt haystack entries p =
      (number entry : ℕ) → IsEntry entries number entry → IsDeadAt haystack entry p

-- the pattern with this number and entry is one of these starts
abbrev pub IsAmong : (number entry : ℕ) → List Start → Type 0
IsAmong number entry [] = ⊥
IsAmong number entry (start ∷ starts) =
    ((number ≡ start.number) × (entry ≡ start.place)) ⊎ IsAmong number entry starts

-- the starts are those of patterns with these entries, in the order of their numbers, from this
-- number on
abbrev pub AreFrom : (entries : List ℕ) → (from : ℕ) → List Start → Type 0
AreFrom entries from [] = Unit {0}
AreFrom entries from (start ∷ starts) =
    (from ≤ start.number) × IsEntry entries start.number start.place
    × AreFrom entries (suc start.number) starts

-- at position p a match can start only by these starts
pub record AreStartsAt (table : List (Place ℕ)) (haystack : Text) (entries : List ℕ) (p : ℕ)
    (starts : List Start) : Type 0 where
  pub in_order : AreFrom entries 0 starts
  pub each : (number entry : ℕ) → IsEntry entries number entry
      → IsAmong number entry starts ⊎ IsDeadAt table haystack entry p

-- up to the last position at which a match may start these are the starts, and after it there are
-- none
pub record AreStartsUpTo (table : List (Place ℕ)) (haystack : Text) (entries : List ℕ)
    (last p : ℕ) (starts : List Start) : Type 0 where
  pub up_to : p ≤ last → AreStartsAt table haystack entries p starts
  pub none_after : last < p → starts ≡ []

-- each pattern has one of these starts, in order
pub record AreAllStarts (table : List (Place ℕ)) (entries : List ℕ) (starts : List Start) : Type 0
  where
    pub in_order : AreFrom entries 0 starts
    pub each : (number entry : ℕ) → IsEntry entries number entry → IsAmong number entry starts
    pub inside : All (λ start. start.place < length table) starts
    pub few : length starts ≤ length entries
    pub countable : length starts < 2 ^ 32

-- from each position a search finds the next of the words
abbrev pub IsAnsweredBy : List (Place ℕ) → (start : ℕ) → (words : List (List Letter)) → Type 0
IsAnsweredBy table start words =
    (bytes : List ℕ) (from : ℕ) (span : Option (ℕ × ℕ)) → IsUtf8 bytes → IsCharBoundary bytes from
    → IsNextSpan words bytes from span
    → IsNumberedOutcome table (chars bytes) start (position_at bytes from) (best_at span [])

-- from each position a search for the least end finds the end of the next word, if there is a
-- single word
abbrev pub IsEndedBy : List (Place ℕ) → (start : ℕ) → (words : List (List Letter)) → Type 0
IsEndedBy table start words =
    length words ≡ 1 → (bytes : List ℕ) (from : ℕ) (span : Option (ℕ × ℕ)) → IsUtf8 bytes
    → IsCharBoundary bytes from → IsNextSpan words bytes from span
    → IsNumberedEndOf table (chars bytes) (start ∷ []) (position_at bytes from)
    (ending_at (option_map (λ span. span.1) span))

-- the words answer searches for both
pub record AnswerSearches (table : List (Place ℕ)) (start : ℕ) (words : List (List Letter))
    : Type 0 where
  pub found : IsAnsweredBy table start words
  pub ends : IsEndedBy table start words

-- if the pattern is plain words, they answer searches
abbrev pub DoWordsAnswer : List (Place ℕ) → (start : ℕ) → StartFacts → Type 0
DoWordsAnswer table start facts =
    IsTrue facts.are_all → IfSome facts.words (AnswerSearches table start)

-- no way from the start leads to a complete match if none can begin there
abbrev pub AreFactsOf : List (Place ℕ) → (start : ℕ) → StartFacts → Type 0
AreFactsOf table start facts =
    (haystack : Text) (i : ℕ) → NeverStarts facts haystack i → IsDeadAt table haystack start i

-- the filters of several patterns are right for each of them
pub record AreFiltersOf (table : List (Place ℕ)) (entries : List ℕ) (filters : List StartFacts)
    : Type 0 where
  pub all : length filters ≡ length entries
  pub each : (number entry : ℕ) (filter : StartFacts) → IsEntry entries number entry
      → slice_get filters number ≡ Some filter → AreFactsOf table entry filter
  pub answers : (number entry : ℕ) (filter : StartFacts) → IsEntry entries number entry
      → slice_get filters number ≡ Some filter → DoWordsAnswer table entry filter

-- no way from the start leads to a complete match at the haystack's end
abbrev pub NoneBeginsAtEnd : List (Place ℕ) → (start : ℕ) → Type 0
NoneBeginsAtEnd table start =
    (haystack : Text) → IsDeadAt table haystack start (length haystack)

-- no match of the pattern with entry s can start at the position or later
abbrev pub AreDeadFrom : List (Place ℕ) → Text → (s p : ℕ) → Type 0
AreDeadFrom table haystack s p =
    (i : ℕ) → p ≤ i → i ≤ length haystack → IsDeadAt table haystack s i

-- `here` is at position p or later, and each position between has this property
pub record PassesTo (Passed : ℕ → Type 0) (haystack : Text) (p : ℕ) (here : Here) : Type 0 where
  pub q : ℕ
  pub later : p ≤ q
  pub is : IsHere haystack q here
  pub passed : (i : ℕ) → p ≤ i → i < q → Passed i

-- a search that continues at this offset has skipped only such positions
abbrev pub SkipsTo : (Passed : ℕ → Type 0) → (haystack : List ℕ) → (p at : ℕ) → Type 0
SkipsTo Passed haystack p at =
    (here : Here) → here.at ≡ at → IsHere (chars haystack) (position_at haystack at) here
    → PassesTo Passed (chars haystack) p here

-- if the index of several patterns excludes a pattern, no way from its entry leads to a complete
-- match
pub record IsPrefixIndexOf (table : List (Place ℕ)) (entries : List ℕ) (prefixes : PrefixIndex)
    : Type 0 where
  pub count : prefixes.count ≡ length entries
  pub walkable : IsWalkable prefixes
  -- none of any pattern, if no pattern can begin
  pub any : (haystack : Text) (p : ℕ) → (MayBegin prefixes.any haystack p → ⊥)
      → AreDeadAt table haystack entries p
  -- none of a pattern that may not start there
  pub each : (haystack : Text) (p number entry : ℕ) → IsEntry entries number entry
      → may_start_at prefixes haystack p number ≡ false → IsDeadAt table haystack entry p
  -- none of a pattern that may not continue with the third character
  pub third : (haystack : Text) (p number entry : ℕ) → IsEntry entries number entry
      → may_go_on prefixes.third_masks (after haystack (suc (suc p))) number ≡ false
      → IsDeadAt table haystack entry p

-- the pattern with this number, and the place where it is entered
abbrev pub start_numbered : (entries : List ℕ) → (number : ℕ) → Start
start_numbered entries number = record { number = number; place = slice_index entries number }

-- whether the pattern with this number may match without reading a character
abbrev pub may_be_empty : List Tree → (number : ℕ) → Bool
may_be_empty trees number = slice_index_or (map nullable trees) number false

-- at the haystack's end only matches of the patterns with these numbers can start
pub record AreAllAtEnd (table : List (Place ℕ)) (entries numbers : List ℕ) : Type 0 where
  pub starts : (haystack : Text)
      → AreStartsAt table haystack entries (length haystack) (map (start_numbered entries) numbers)
  pub inside : All (λ number. number < length entries) numbers
  pub few : length numbers ≤ length entries

-- `reads` says for each tree whether all its matches read a character
pub record TellReading (trees : List Tree) (reads : List Bool) : Type 0 where
  pub all : length reads ≡ length trees
  pub each : (number : ℕ) (tree : Tree) (reported : Bool) → slice_get trees number ≡ Some tree
      → slice_get reads number ≡ Some reported → reported ≡ not (nullable tree)

-- patterns all of whose matches read a character don't match from the haystack's end
pub record AreReading (table : List (Place ℕ)) (entries : List ℕ) (reads : List Bool) : Type 0 where
  pub all : length reads ≡ length entries
  pub each : (number entry : ℕ) → IsEntry entries number entry
      → slice_get reads number ≡ Some true → NoneBeginsAtEnd table entry
