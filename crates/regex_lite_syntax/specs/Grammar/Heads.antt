-- The heads of groups, and directives.
use Rattle.std.specs.Prelude.{◌≡◌, ◌≢◌, ℕ, ◌+◌, max, [], ◌∷◌, ◌++◌, Option, Some, None}
use Rattle.regex_lite_syntax.specs.declared.flags.Flags.{Flags}
use Rattle.regex_lite_syntax.specs.Text.{Text, the}
use Rattle.regex_lite_syntax.specs.Grammar.Gaps.{Gap}
use Rattle.regex_lite_syntax.specs.Tree.{Tree, capture}
use Rattle.regex_lite_syntax.specs.Grammar.FlagLetters.{FlagLetters}
use Rattle.regex_lite_syntax.specs.Grammar.GroupNames.{Named}
use Rattle.regex_lite_syntax.specs.Grammar.Points.{Point}

-- the kind of a group
pub data GroupKind : Type 0 where
  non_capturing : GroupKind
  capturing : (index : ℕ) (name : Option Text) → GroupKind

abbrev pub group_tree : GroupKind → Tree → Tree
group_tree non_capturing a = a
group_tree (capturing index name) a = capture index name a

-- the point with one more numbered group
abbrev pub numbered_on : Point → Point
numbered_on p = record p { groups = p.groups + 1 }

-- the point with one more name
abbrev pub named_on : Point → Text → Point
named_on p name = record p { names = p.names ++ name ∷ [] }

-- the point inside a group that is inside this many others
abbrev pub inside : (level : ℕ) → Point → Flags → Text → Point
inside level p flags t = record p { rest = t; flags = flags; deepest = max p.deepest (level + 1) }

-- the point after a group's end, where the flags are again those outside
abbrev pub outside : (before end : Point) → Text → Point
outside before end t = record end { rest = t; flags = before.flags }

-- the head of a group, from its parenthesis to where its alternatives begin
pub data Head (level : ℕ) (p q : Point) (kind : GroupKind) : Type 0 where
  numbered : (rest : Text) → p.rest ≡ the "(" ∷ rest
      → ((first : Text) → Gap p.flags.ignore_whitespace rest (the "?" ∷ first) → ⊥)
      → q ≡ numbered_on (inside level p p.flags rest)
      → kind ≡ capturing (p.groups + 1) None → Head level p q kind
  named : (opened first rest name : Text) → p.rest ≡ the "(" ∷ opened
      → Gap p.flags.ignore_whitespace opened first → Named first rest name
      → q ≡ named_on (numbered_on (inside level p p.flags rest)) name
      → kind ≡ capturing (p.groups + 1) (Some name) → Head level p q kind
  plain : (opened first rest : Text) (new : Flags) → p.rest ≡ the "(" ∷ opened
      → Gap p.flags.ignore_whitespace opened (the "?" ∷ first)
      → FlagLetters p.flags first (the ":" ∷ rest) new
      → q ≡ inside level p new rest → kind ≡ non_capturing → Head level p q kind

-- a directive: from here on these flags hold, until the enclosing group closes
pub data Directive (p q : Point) : Type 0 where
  sets : (opened first rest : Text) (new : Flags) → p.rest ≡ the "(" ∷ opened
      → Gap p.flags.ignore_whitespace opened (the "?" ∷ first)
      → first ≢ the ")" ∷ rest
      → FlagLetters p.flags first (the ")" ∷ rest) new
      → q ≡ record p { rest = rest; flags = new } → Directive p q
