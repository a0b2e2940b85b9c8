-- The size of a pattern, and the limits on the NFA.
use Rattle.std.specs.Prelude.{◌+◌, ◌*◌, ◌^◌, ◌<◌, ◌≤◌, ℕ, Option, Some, None, sum_by}
use Rattle.std.specs.Char.{len_utf8}
use Rattle.regex_lite_syntax.specs.declared.error.ErrorKind.{ErrorKind}
use Rattle.regex_lite_syntax.specs.declared.error.ErrorKind.TheVariants.{Size, Places, Slots}
use Rattle.regex_lite_syntax.specs.declared.error.ErrorKind.TheVariants.{Memory}
use Rattle.regex_lite_syntax.specs.Text.{Text}
use Rattle.regex_lite_syntax.specs.Tree.{Tree, Trees, empty, character, class, look}
use Rattle.regex_lite_syntax.specs.Tree.{repetition, capture, concat, alternation, none, more}
use Rattle.regex_lite_syntax.specs.Tree.Properties.{greatest_index, captures_len}
use Rattle.regex_lite_engine.specs.Graph.PlaceCounts.{whole_places, choice_arrows, ranges}

-- the size of a name: 4, and its bytes
abbrev pub name_size : Option Text → ℕ
name_size None = 0
name_size (Some name) = 4 + sum_by len_utf8 name

abbrev mutual
  -- the size of the names of groups, each counted once
  pub names_size : Tree → ℕ
  names_size empty = 0
  names_size (character c) = 0
  names_size (class ranges) = 0
  names_size (look test) = 0
  names_size (repetition least most greedy body) = names_size body
  names_size (capture index name body) = name_size name + names_size body
  names_size (concat parts) = names_size_in parts
  names_size (alternation branches) = names_size_in branches

  pub names_size_in : Trees → ℕ
  names_size_in none = 0
  names_size_in (more a rest) = names_size a + names_size_in rest

-- 32 a place, 16 a group, 4 for each arrow of a choice, 8 for each range of a set, and the names
abbrev pub size : Tree → ℕ
size tree =
    32 * whole_places tree + 16 * captures_len tree + 4 * choice_arrows tree + 8 * ranges tree
    + names_size tree

-- there are more places than can be numbered
abbrev pub PassesPlaces : Tree → Type 0
PassesPlaces tree = 2 ^ 32 ≤ whole_places tree

-- a group has an index whose slots cannot be numbered
abbrev pub PassesSlots : Tree → Type 0
PassesSlots tree = 2 ^ 31 ≤ greatest_index tree

-- none of the limits on the NFA is exceeded
pub record Fits (size_limit : ℕ) (tree : Tree) : Type 0 where
  pub size_fits : size tree ≤ size_limit
  pub places_fit : whole_places tree < 2 ^ 32
  pub slots_fit : greatest_index tree < 2 ^ 31

-- an error of this kind is due for a tree that is to be written out; that memory ran out is due for
-- any tree
abbrev pub IsDueToTree : (size_limit : ℕ) → Tree → ErrorKind → Type 0
IsDueToTree size_limit tree Size = size_limit < size tree
IsDueToTree size_limit tree Places = PassesPlaces tree
IsDueToTree size_limit tree Slots = PassesSlots tree
IsDueToTree size_limit tree Memory = Unit {0}
IsDueToTree size_limit tree _ = ⊥
