-- The limits on nesting and on the number of groups, and when an error for a pattern is due.
use Rattle.std.specs.Prelude.{◌⊎◌, ◌==◌, ◌+◌, ◌^◌, ◌<◌, ◌≤◌, max, ℕ, count_by}
use Rattle.regex_lite_syntax.specs.declared.error.ErrorKind.{ErrorKind}
use Rattle.regex_lite_syntax.specs.declared.error.ErrorKind.TheVariants.{Syntax, Nesting}
use Rattle.regex_lite_syntax.specs.declared.error.ErrorKind.TheVariants.{Groups, Memory}
use Rattle.regex_lite_syntax.specs.declared.flags.Flags.{Flags}
use Rattle.regex_lite_syntax.specs.Text.{Text, the}
use Rattle.regex_lite_syntax.specs.Tree.{Tree, Trees, empty, character, class, look}
use Rattle.regex_lite_syntax.specs.Tree.{repetition, capture, concat, alternation, none, more}
use Rattle.regex_lite_syntax.specs.Grammar.{Grammar, HasTree}

abbrev mutual
  -- the depth of the nodes below the root
  pub depth : Tree → ℕ
  depth (repetition least most greedy body) = depth body + 1
  depth (capture index name body) = depth body + 1
  depth (concat parts) = depth_of_list parts + 1
  depth (alternation branches) = depth_of_list branches + 1
  depth empty = 0
  depth (character c) = 0
  depth (class ranges) = 0
  depth (look test) = 0

  pub depth_of_list : Trees → ℕ
  depth_of_list none = 0
  depth_of_list (more a rest) = max (depth a) (depth_of_list rest)

-- groups are nested too deeply, or the tree is too deep
abbrev pub PassesNesting : (limit : ℕ) → Tree → (deepest : ℕ) → Type 0
PassesNesting limit tree deepest = (limit < deepest) ⊎ (limit < depth tree)

-- there are more groups than can be numbered
abbrev pub PassesGroups : (groups : ℕ) → Type 0
PassesGroups groups = 2 ^ 32 ≤ groups

-- the greatest number of groups that could be opened in the text
abbrev pub openings : Text → ℕ
openings pattern = count_by (λ c. c == the "(") pattern

-- under these flags the grammar gives the pattern this tree, which exceeds neither the limit on
-- nesting nor that on the number of groups
abbrev pub IsAdmitted : Flags → (nest_limit : ℕ) → Text → Tree → Type 0
IsAdmitted flags nest_limit pattern tree =
    (groups : ℕ) × (deepest : ℕ) × Grammar flags pattern tree groups deepest
    × (PassesNesting nest_limit tree deepest → ⊥) × (PassesGroups groups → ⊥)

-- the pattern exceeds the limit on nesting: its tree does, or if the grammar gives none, it could
-- open more groups than the limit
pub record NestingRefused (flags : Flags) (nest_limit : ℕ) (pattern : Text) : Type 0 where
  pub with_tree : (tree : Tree) (groups deepest : ℕ) → Grammar flags pattern tree groups deepest
      → PassesNesting nest_limit tree deepest
  pub without : (HasTree flags pattern → ⊥) → nest_limit < openings pattern

-- the pattern has too many groups, or if the grammar gives no tree, could have that many
pub record GroupsRefused (flags : Flags) (pattern : Text) : Type 0 where
  pub with_tree : (tree : Tree) (groups deepest : ℕ) → Grammar flags pattern tree groups deepest
      → PassesGroups groups
  pub without : (HasTree flags pattern → ⊥) → PassesGroups (openings pattern)

-- an error of this kind is due for the pattern; that memory ran out is due for any pattern
abbrev pub IsDueToPattern : Flags → (nest_limit : ℕ) → Text → ErrorKind → Type 0
IsDueToPattern flags nest_limit pattern Syntax = HasTree flags pattern → ⊥
IsDueToPattern flags nest_limit pattern Nesting = NestingRefused flags nest_limit pattern
IsDueToPattern flags nest_limit pattern Groups = GroupsRefused flags pattern
IsDueToPattern flags nest_limit pattern Memory = Unit {0}
IsDueToPattern flags nest_limit pattern _ = ⊥
