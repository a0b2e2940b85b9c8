-- Laws of the trees of patterns.
use Rattle.std.specs.Prelude.{◌≡◌, ◌↔◌, ℕ, List, Some, chars, length, slice_get}
use Rattle.regex_lite_syntax.specs.Grammar.{IsTree}
use Rattle.regex_lite_syntax.specs.Tree.{Tree}
use Rattle.regex_lite.specs.Expression.{Expression}
use Rattle.regex_lite.specs.RegexList.{AreTrees}

-- the trees of one pattern are equal
abbrev pub OneTree : Type 0
OneTree =
    (re : Expression) (a b : Tree) → IsTree re.flags (chars re.pattern) a
    → IsTree re.flags (chars re.pattern) b → a ≡ b

-- the lists of trees of several patterns are equal
abbrev pub OneTreeList : Type 0
OneTreeList =
    (list : List Expression) (a b : List Tree) → AreTrees list a → AreTrees list b → a ≡ b

-- these are the trees of several patterns exactly if there are as many trees as patterns, and each
-- pattern has the tree with its number
abbrev pub TreesAreNumbered : Type 0
TreesAreNumbered =
    (list : List Expression) (trees : List Tree)
    → AreTrees list trees ↔ ((length list ≡ length trees)
    × ((number : ℕ) (re : Expression) (tree : Tree) → slice_get list number ≡ Some re
    → slice_get trees number ≡ Some tree → IsTree re.flags (chars re.pattern) tree))
