-- How one walk over a tree finds words of which each match has one.
use Rattle.std.specs.Prelude.{◌≡◌, ◌⊎◌, ◌+◌, ◌≤◌, ◌<◌, ℕ, List, [], ◌∷◌, ◌++◌, drop}
use Rattle.std.specs.Prelude.{encode_utf8_all}
use Rattle.std.specs.Prelude.{length, slice_index, true}
use Rattle.regex_lite_syntax.specs.Text.{Text}
use Rattle.regex_lite_syntax.specs.Tree.{Tree}
use Rattle.regex_lite_syntax.specs.Tree.Matches.{Matches}
use Rattle.regex_lite_syntax.specs.declared.prefilter.first_set.FirstSet.{FirstSet}
use Rattle.regex_lite_syntax.specs.declared.prefilter.words.letter.Letter.{Letter}
use Rattle.regex_lite_syntax.specs.declared.prefilter.words.needed_walk.NeededWalk.{NeededWalk}
use Rattle.regex_lite_syntax.specs.Prefilter.Needed.{NeededWords, Reaches}
use Rattle.regex_lite_syntax.specs.Prefilter.FirstSet.{AreBetween, begins_with, IsWider}
use Rattle.regex_lite_syntax.specs.Prefilter.FirstSet.{ReadsAmong}
use Rattle.regex_lite_syntax.specs.Prefilter.Words.{IsLetter, StartsWith}

-- these words, with these characters before them
abbrev pub as_needed : (words : List (List Letter)) → (lead : FirstSet) → NeededWords
as_needed words lead = record {
  words = words;
  lead = lead;
}

-- wherever one of the words is reached, one of the others is
abbrev pub ReachesToo : (needed others : NeededWords) → Type 0
ReachesToo needed others = (bytes : List ℕ) (from : ℕ) → Reaches needed bytes from
    → Reaches others bytes from

-- the first bytes, as many as that, are of these characters
abbrev pub AreAmong : FirstSet → (bytes : List ℕ) → (count : ℕ) → Type 0
AreAmong starts bytes count =
    (k : ℕ) → k < count → begins_with starts (slice_index bytes k) ≡ true

-- one of the best words stands in the bytes of a match, and the row right before the rest of them,
-- each after characters that may lead to it. A word without letters stands everywhere
pub record HasFound (bytes rest : List ℕ) (walk : NeededWalk) : Type 0 where
  pub best : Reaches (as_needed walk.best walk.best_lead) bytes 0
  pub row_at : ℕ
  pub row : StartsWith walk.row (drop row_at bytes)
  pub behind : drop (length walk.row) (drop row_at bytes) ≡ rest
  pub led : AreAmong walk.row_lead bytes row_at
  pub read : AreAmong walk.read bytes (row_at + length walk.row)

-- the row is ended, and may be the best word from now on
pub record EndsRow (before after : NeededWalk) : Type 0 where
  pub row : after.row ≡ []
  pub best : (as_needed after.best after.best_lead ≡ as_needed before.best before.best_lead)
      ⊎ (as_needed after.best after.best_lead ≡ as_needed (before.row ∷ []) before.row_lead)
  pub read : after.read ≡ before.read
  pub led : after.row_lead ≡ before.read

-- what was found before a match of the tree stays found, and other words may be the best
pub record Chooses (tree : Tree) (before after : NeededWalk) : Type 0 where
  pub finds : (haystack : Text) (bytes : List ℕ) (i j : ℕ)
      → HasFound bytes (encode_utf8_all (drop i haystack)) before → Matches haystack tree i j
      → HasFound bytes (encode_utf8_all (drop i haystack)) after
  pub read : after.read ≡ before.read

-- what was found stays found after any characters that are counted as read
pub record Leaves (before after : NeededWalk) : Type 0 where
  pub finds : (haystack : Text) (bytes : List ℕ) (i j : ℕ) → i ≤ j
      → AreBetween after.read haystack i j
      → HasFound bytes (encode_utf8_all (drop i haystack)) before
      → HasFound bytes (encode_utf8_all (drop j haystack)) after
  pub wider : IsWider before.read after.read

-- what was found before a byte that is the letter is also found after it, and the byte is counted
-- as read
pub record FindsLetter (letter : Letter) (before after : NeededWalk) : Type 0 where
  pub finds : (bytes rest : List ℕ) (byte : ℕ) → IsLetter letter byte
      → HasFound bytes (byte ∷ rest) before → HasFound bytes rest after
  pub reads : (byte : ℕ) → IsLetter letter byte → begins_with after.read byte ≡ true
  pub wider : IsWider before.read after.read

-- what was found before these bytes is also found after them, and they are counted as read
pub record FindsBytes (read : List ℕ) (before after : NeededWalk) : Type 0 where
  pub finds : (bytes rest : List ℕ) → HasFound bytes (read ++ rest) before
      → HasFound bytes rest after
  pub reads : AreAmong after.read read (length read)
  pub wider : IsWider before.read after.read

-- what was found up to a position from which the tree matches is also found up to the match's end,
-- and the characters in between are counted as read
pub record FindsPast (tree : Tree) (before after : NeededWalk) : Type 0 where
  pub finds : (haystack : Text) (bytes : List ℕ) (i j : ℕ)
      → HasFound bytes (encode_utf8_all (drop i haystack)) before → Matches haystack tree i j
      → HasFound bytes (encode_utf8_all (drop j haystack)) after
  pub reads : ReadsAmong tree after.read
  pub wider : IsWider before.read after.read
