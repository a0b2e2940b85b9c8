-- Laws of matches and ways.
use Rattle.std.specs.Prelude.{◌↔◌, ℕ, List}
use Rattle.regex_lite_syntax.specs.declared.flags.Flags.{Flags}
use Rattle.regex_lite_syntax.specs.Text.{Text}
use Rattle.regex_lite_syntax.specs.Tree.{Tree}
use Rattle.regex_lite_syntax.specs.Tree.Matches.{Matches}
use Rattle.regex_lite_syntax.specs.Grammar.{IsTree}
use Rattle.regex_lite_engine.specs.Graph.WrittenOut.{IsWayThrough}

-- this is the tree of some pattern
abbrev pub IsPatternTree : Tree → Type 0
IsPatternTree tree = (flags : Flags) × (pattern : Text) × IsTree flags pattern tree

-- the tree of a pattern matches from i to j exactly if a way through its written-out pattern leads
-- from i to j
abbrev pub MatchesAreWays : Type 0
MatchesAreWays =
    (tree : Tree) → IsPatternTree tree → (haystack : Text) (i j : ℕ) →
    Matches haystack tree i j ↔ ((arrows : List ℕ) × IsWayThrough tree haystack i arrows j)
