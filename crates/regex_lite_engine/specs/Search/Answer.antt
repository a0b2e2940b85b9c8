-- The answer of a search.
use Rattle.std.specs.Prelude.{◌≡◌, ◌≤◌, ℕ, List, Option, Some, None}
use Rattle.regex_lite_syntax.specs.Text.{Text}
use Rattle.regex_lite_syntax.specs.Tree.{Tree}
use Rattle.regex_lite_syntax.specs.Tree.Matches.{IsPosition, Matches}
use Rattle.regex_lite_engine.specs.Graph.WrittenOut.{IsWayThrough}
use Rattle.regex_lite_engine.specs.Search.Marks.{Marks, marks_of_way}
use Rattle.regex_lite_engine.specs.Search.Preference.{IsMostPreferred}

-- the tree matches from position i, which is s or a later one, to position j
pub record IsMatchFrom (tree : Tree) (haystack : Text) (s i j : ℕ) : Type 0 where
  pub from : s ≤ i
  pub inside : IsPosition haystack i
  pub matches : Matches haystack tree i j

-- the tree matches from a position at or after s
abbrev pub HasMatchFrom : Tree → Text → (s : ℕ) → Type 0
HasMatchFrom tree haystack s = (i : ℕ) × (j : ℕ) × IsMatchFrom tree haystack s i j

-- the start and the end of a match, and its marks
pub record Found : Type 0 where
  pub start : ℕ
  pub end : ℕ
  pub marks : Marks

-- a way leads from the match's start to its end, and has its marks
pub record IsOfWay (tree : Tree) (haystack : Text) (found : Found) : Type 0 where
  pub inside : IsPosition haystack found.start
  pub way : List ℕ
  pub is_way : IsWayThrough tree haystack found.start way found.end
  pub marks : found.marks ≡ marks_of_way tree haystack found.start way

-- the least position at or after s from which the tree matches, with the end and the marks of the
-- most preferred way from there
pub record IsFound (tree : Tree) (haystack : Text) (s : ℕ) (found : Found) : Type 0 where
  pub from : s ≤ found.start
  pub inside : IsPosition haystack found.start
  pub least : (i j : ℕ) → IsMatchFrom tree haystack s i j → found.start ≤ i
  pub way : List ℕ
  pub most_preferred : IsMostPreferred tree haystack found.start way found.end
  pub marks : found.marks ≡ marks_of_way tree haystack found.start way

-- the answer of a search from position s on
abbrev pub IsAnswer : Tree → Text → (s : ℕ) → Option Found → Type 0
IsAnswer tree haystack s None = HasMatchFrom tree haystack s → ⊥
IsAnswer tree haystack s (Some found) = IsFound tree haystack s found

-- the least position at which a match ends that starts at or after s
pub record IsLeastEnd (tree : Tree) (haystack : Text) (s j : ℕ) : Type 0 where
  pub start : ℕ
  pub is_match : IsMatchFrom tree haystack s start j
  pub least : (i k : ℕ) → IsMatchFrom tree haystack s i k → j ≤ k

-- the answer of a search for the least end
abbrev pub IsShortest : Tree → Text → (s : ℕ) → Option ℕ → Type 0
IsShortest tree haystack s None = HasMatchFrom tree haystack s → ⊥
IsShortest tree haystack s (Some j) = IsLeastEnd tree haystack s j
