-- What a search of the graph returns of a way, an accepting path of the pattern.
use Rattle.std.specs.Prelude.{ℕ, List, Option, chars}
use Rattle.regex_lite_syntax.specs.Grammar.{IsTree}
use Rattle.regex_lite_syntax.specs.Tree.{Tree}
use Rattle.regex_lite_engine.specs.Graph.SideBySide.{HasTree}
use Rattle.regex_lite_engine.specs.Search.Answer.{Found, IsOfWay}
use Rattle.regex_lite_engine.specs.Search.Outcomes.{TellsFound}
use Rattle.regex_lite.specs.Expression.{Expression}
use Rattle.regex_lite.specs.RegexList.{AreTrees}

-- a way of the tree is found, and the span and the slots have its offsets
pub record IsReportedOfWay (tree : Tree) (haystack : List ℕ) (span : ℕ × ℕ)
    (slots : List (Option ℕ)) (found : Found) : Type 0 where
  pub of_way : IsOfWay tree (chars haystack) found
  pub tells : TellsFound (chars haystack) found span slots

-- the span and the slots are those of a way of the pattern's tree
pub record TellsOfWay (re : Expression) (haystack : List ℕ) (span : ℕ × ℕ)
    (slots : List (Option ℕ)) : Type 0 where
  pub tree : Tree
  pub given : IsTree re.flags (chars re.pattern) tree
  pub found : Found
  pub reported : IsReportedOfWay tree haystack span slots found

-- the span and the slots are those of a way of the pattern with this number
pub record TellsOfListedWay (list : List Expression) (haystack : List ℕ) (number : ℕ)
    (span : ℕ × ℕ) (slots : List (Option ℕ)) : Type 0 where
  pub trees : List Tree
  pub given : AreTrees list trees
  pub tree : Tree
  pub numbered : HasTree trees number tree
  pub found : Found
  pub reported : IsReportedOfWay tree haystack span slots found
