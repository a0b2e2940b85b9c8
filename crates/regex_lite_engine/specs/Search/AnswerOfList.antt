-- The answer of a search for several patterns, which have numbers from 0 on.
use Rattle.std.specs.Prelude.{◌≡◌, ◌≤◌, ◌↔◌, ℕ, Bool, false, IsTrue, List, length}
use Rattle.std.specs.Prelude.{Option, Some, None, slice_index_or}
use Rattle.regex_lite_syntax.specs.Text.{Text}
use Rattle.regex_lite_syntax.specs.Tree.{Tree}
use Rattle.regex_lite_syntax.specs.Tree.Matches.{Matches}
use Rattle.regex_lite_engine.specs.Graph.SideBySide.{HasTree}
use Rattle.regex_lite_engine.specs.Search.Answer.{IsMatchFrom, HasMatchFrom, Found, IsAnswer}

-- some pattern matches from a position at or after s
abbrev pub AnyMatchesFrom : List Tree → Text → (s : ℕ) → Type 0
AnyMatchesFrom trees haystack s =
    (number : ℕ) × (tree : Tree) × HasTree trees number tree × HasMatchFrom tree haystack s

-- the least start of any pattern at or after s, the lowest number of a pattern that matches there,
-- and that pattern's answer from that start
pub record IsFoundInList (trees : List Tree) (haystack : Text) (s number : ℕ) (found : Found)
    : Type 0 where
  pub tree : Tree
  pub numbered : HasTree trees number tree
  pub from : s ≤ found.start
  pub least : (k i j : ℕ) (other : Tree) → HasTree trees k other
      → IsMatchFrom other haystack s i j → found.start ≤ i
  pub lowest : (k j : ℕ) (other : Tree) → HasTree trees k other
      → Matches haystack other found.start j → number ≤ k
  pub answer : IsAnswer tree haystack found.start (Some found)

-- the answer of a search from position s on: the number of a pattern, and what was found of it
abbrev pub IsAnswerOfList : List Tree → Text → (s : ℕ) → Option (ℕ × Found) → Type 0
IsAnswerOfList trees haystack s None = AnyMatchesFrom trees haystack s → ⊥
IsAnswerOfList trees haystack s (Some reported) = IsFoundInList trees haystack s reported.0
    reported.1

-- whether each pattern, in the order of the numbers, matches from a position at or after s
pub record TellsWhich (trees : List Tree) (haystack : Text) (s : ℕ) (reported : List Bool)
    : Type 0 where
  pub all : length reported ≡ length trees
  pub each : (number : ℕ) (tree : Tree) → HasTree trees number tree
      → IsTrue (slice_index_or reported number false) ↔ HasMatchFrom tree haystack s
