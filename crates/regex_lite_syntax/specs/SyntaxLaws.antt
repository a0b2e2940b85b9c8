-- Laws of the definitions.
use Rattle.std.specs.Prelude.{◌≡◌, ◌↔◌, ◌++◌, ℕ, List, [], false}
use Rattle.std.specs.List.Sorted.{IsStrictlyIncreasing}
use Rattle.regex_lite_syntax.specs.declared.class.ClassRange.{ClassRange}
use Rattle.regex_lite_syntax.specs.declared.flags.Flags.{Flags}
use Rattle.regex_lite_syntax.specs.Text.{Text}
use Rattle.regex_lite_syntax.specs.Characters.{AreCharacters}
use Rattle.regex_lite_syntax.specs.Ranges.{in_ranges, AreRuns}
use Rattle.regex_lite_syntax.specs.Tree.{Tree}
use Rattle.regex_lite_syntax.specs.Tree.Matches.{Matches}
use Rattle.regex_lite_syntax.specs.Tree.Numbering.{indices, IndicesDiffer}
use Rattle.regex_lite_syntax.specs.Grammar.{Grammar, IsTree}
use Rattle.regex_lite_syntax.specs.Escaped.{escaped, literal, StandsAt}
use Rattle.regex_lite_syntax.specs.FaultPlaces.{IsReadTo}
use Rattle.regex_lite_syntax.specs.Grammar.Gaps.{Gap}
use Rattle.regex_lite_syntax.specs.Grammar.Points.{Point, onward}

-- flags and a pattern have at most one tree, one number of groups and one depth of groups
abbrev pub AtMostOneTree : Type 0
AtMostOneTree =
    (flags : Flags) (pattern : Text) (a b : Tree) (groups groups' deepest deepest' : ℕ)
    → Grammar flags pattern a groups deepest → Grammar flags pattern b groups' deepest'
    → (a ≡ b) × (groups ≡ groups') × (deepest ≡ deepest')

-- a set of characters has exactly one list of maximal runs
abbrev pub EqualSetsHaveEqualRanges : Type 0
EqualSetsHaveEqualRanges =
    (a b : List ClassRange) → AreRuns 0 a → AreRuns 0 b
    → ((c : ℕ) → in_ranges a c ≡ in_ranges b c) → a ≡ b

-- the groups of a pattern are numbered in the order of their opening parentheses
abbrev pub GroupsAreNumbered : Type 0
GroupsAreNumbered =
    (flags : Flags) (pattern : Text) (tree : Tree) → IsTree flags pattern tree
    → IsStrictlyIncreasing (indices tree)

-- no index occurs twice in a tree of the grammar; a tree with two groups of one index could claim
-- that more groups take part in each match than it has
abbrev pub NoIndexStandsTwice : Type 0
NoIndexStandsTwice =
    (flags : Flags) (pattern : Text) (tree : Tree) → IsTree flags pattern tree
    → IndicesDiffer tree

-- if neither `i` nor `x` is on, the tree of an escaped text is its characters, without a group
abbrev pub EscapedTextsAreLiteral : Type 0
EscapedTextsAreLiteral =
    (flags : Flags) (text : Text) → flags.case_insensitive ≡ false
    → flags.ignore_whitespace ≡ false → AreCharacters text
    → Grammar flags (escaped text) (literal text) 0 0

-- the characters of a text match exactly where the text occurs
abbrev pub LiteralsMatchTheirText : Type 0
LiteralsMatchTheirText =
    (text haystack : Text) (i j : ℕ)
    → Matches haystack (literal text) i j ↔ StandsAt text haystack i j

-- parsing goes from left to right: what is read of a pattern is also read of each longer pattern
-- that begins with it, if more than a gap is left
abbrev pub ReadingGoesOn : Type 0
ReadingGoesOn =
    (flags : Flags) (pattern more : Text) (q : Point) → IsReadTo flags pattern q
    → (Gap q.flags.ignore_whitespace q.rest [] → ⊥)
    → IsReadTo flags (pattern ++ more) (onward q (q.rest ++ more))
