-- A searcher with a text of its own, as contracts see it.
use Rattle.std.specs.Prelude.{◌≡◌, ℕ, List, Option, length}
use Rattle.regex_lite_syntax.specs.Tree.Properties.{captures_len}
use Rattle.regex_lite.specs.Expression.{Expression, OfTree}

-- what is searched for, and the bytes of the text that is searched
pub record TextSearch : Type 0 where
  pub re : Expression
  pub text : List ℕ

-- there is one span for each group of the pattern, including the whole match
abbrev pub HasEachGroup : Expression → (spans : List (Option (ℕ × ℕ))) → Type 0
HasEachGroup re spans = OfTree re (λ tree. length spans ≡ captures_len tree)
