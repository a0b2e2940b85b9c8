-- A regex as contracts see it, what is built and what is rejected, and what a regex returns.
use Rattle.std.specs.Prelude.{◌≡◌, ◌⊎◌, ℕ, List, Option, None, Result, IfOk, IfErr}
use Rattle.std.specs.Prelude.{chars, map, option_map, length, slice_index_or}
use Rattle.regex_lite_syntax.specs.declared.flags.Flags.{Flags}
use Rattle.regex_lite_syntax.specs.Text.{Text}
use Rattle.regex_lite_syntax.specs.Tree.{Tree}
use Rattle.regex_lite_syntax.specs.declared.error.Error.{Error}
use Rattle.regex_lite_syntax.specs.Errors.{kind_of, out_of_memory}
use Rattle.regex_lite_syntax.specs.Grammar.{IsTree}
use Rattle.regex_lite_syntax.specs.Limits.{IsAdmitted, IsDueToPattern}
use Rattle.regex_lite_syntax.specs.Tree.Properties.{captures_len, group_name}
use Rattle.regex_lite_engine.specs.Graph.Size.{Fits, IsDueToTree}
use Rattle.regex_lite.specs.Settings.{Settings}

-- a pattern, as its bytes, and the flags under which it is read
pub record Expression : Type 0 where
  pub pattern : List ℕ
  pub flags : Flags

-- what is built under these settings
abbrev pub expression_of : Settings → Expression
expression_of settings = record { pattern = settings.pattern; flags = settings.flags }

-- under these settings the grammar gives the pattern this tree, which exceeds neither the limit on
-- nesting nor that on the number of groups
abbrev pub IsReadAs : Settings → Tree → Type 0
IsReadAs settings tree =
    IsAdmitted settings.flags settings.nest_limit (chars settings.pattern) tree

-- under these settings the grammar gives the pattern a tree, and no limit is exceeded
abbrev pub IsAccepted : Settings → Type 0
IsAccepted settings = (tree : Tree) × IsReadAs settings tree × Fits settings.size_limit tree

-- what the error says of the pattern under these settings is true, or what it says of the tree that
-- would have to be compiled
abbrev pub IsDue : Settings → Error → Type 0
IsDue settings error =
    IsDueToPattern settings.flags settings.nest_limit (chars settings.pattern) (kind_of error)
    ⊎ ((tree : Tree) × IsReadAs settings tree
    × IsDueToTree settings.size_limit tree (kind_of error))

-- the result of building a regex under these settings
pub record Builds (settings : Settings) (result : Result Expression Error) : Type 0 where
  -- the regex has the pattern and the flags
  pub ok : IfOk result (λ regex. regex ≡ expression_of settings)
  -- its pattern has a tree and exceeds no limit
  pub accepted : IfOk result (λ _. IsAccepted settings)
  -- what the error says is true
  pub refused : IfErr result (λ error. IsDue settings error)
  -- if the pattern has a tree and exceeds no limit, the only error is that memory ran out
  pub complete : IfErr result (λ error. IsAccepted settings → error ≡ out_of_memory)

-- the tree of the pattern has this property
abbrev pub OfTree : Expression → (Tree → Type 0) → Type 0
OfTree re property = (tree : Tree) × IsTree re.flags (chars re.pattern) tree × property tree

-- the name at this index, if there is one; the names are given as their bytes
abbrev pub name_at : List (Option (List ℕ)) → ℕ → Option Text
name_at names index = slice_index_or (map (option_map chars) names) index None

-- these are the names of the groups of the tree by index. Group 0 is the whole match and has none
pub record AreNames (names : List (Option (List ℕ))) (tree : Tree) : Type 0 where
  pub each_group : length names ≡ captures_len tree
  pub name : (index : ℕ) → name_at names index ≡ group_name tree index
  pub whole_match : name_at names 0 ≡ None
