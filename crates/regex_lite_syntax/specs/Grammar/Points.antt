-- Points of a pattern.
use Rattle.std.specs.Prelude.{◌≡◌, ℕ, List, []}
use Rattle.regex_lite_syntax.specs.declared.flags.Flags.{Flags}
use Rattle.regex_lite_syntax.specs.Text.{Text}
use Rattle.regex_lite_syntax.specs.Grammar.Gaps.{Gap}

-- where a part of a pattern begins or ends, with all that the parts after it depend on
pub record Point : Type 0 where
  -- what is left of the pattern
  pub rest : Text
  -- the flags that hold here
  pub flags : Flags
  -- the number of groups that have been numbered
  pub groups : ℕ
  -- the names of groups, in order
  pub names : List Text
  -- the greatest number of nested groups
  pub deepest : ℕ

-- the point further on
abbrev pub onward : Point → Text → Point
onward p t = record p { rest = t }

-- the point after the gap
abbrev pub PastGap : Point → Point → Type 0
PastGap p q = Gap p.flags.ignore_whitespace p.rest q.rest × (q ≡ onward p q.rest)

-- the point at which a pattern begins
abbrev pub start : Flags → Text → Point
start flags pattern = record { rest = pattern; flags = flags; groups = 0; names = []; deepest = 0 }
