-- Which patterns a search for their words has marked.
use Rattle.std.specs.Prelude.{◌≤◌, ◌<◌, ◌⊎◌, ℕ, Bool, false, IsTrue, List, slice_index_or}
use Rattle.regex_lite_syntax.specs.declared.prefilter.words.numbered.Numbered.{Numbered}
use Rattle.regex_lite_syntax.specs.Prefilter.NumberedWords.{NumberedWords, PatternStandsAt}
use Rattle.regex_lite_syntax.specs.Prefilter.WordLists.{all_words}

-- the words, and the numbers of their patterns
abbrev pub numbered_words : Numbered → NumberedWords
numbered_words numbered = record {
  words = all_words numbered.words.now;
  owners = numbered.owners.now;
}

-- the pattern with this number is marked
abbrev pub IsMarked : List Bool → (number : ℕ) → Type 0
IsMarked marks number = IsTrue (slice_index_or marks number false)

module _ (numbered : NumberedWords) (bytes : List ℕ) where
  -- Marked are all patterns of which a word stands from one offset up to the other, and none but
  -- those of which one stands from the first offset on.
  pub record AreMarked (from to : ℕ) (marks : List Bool) : Type 0 where
    pub each : (number at : ℕ) → from ≤ at → at < to → PatternStandsAt numbered bytes number at
        → IsMarked marks number
    pub only : (number : ℕ) → IsMarked marks number
        → (at : ℕ) × (from ≤ at) × PatternStandsAt numbered bytes number at

  -- No mark is lost, and new ones are for patterns of which a word stands at such an offset.
  pub record AddsMarks (AtOffset : ℕ → Type 0) (old new : List Bool) : Type 0 where
    pub kept : (number : ℕ) → IsMarked old number → IsMarked new number
    pub only : (number : ℕ) → IsMarked new number → IsMarked old number
        ⊎ ((at : ℕ) × AtOffset at × PatternStandsAt numbered bytes number at)
