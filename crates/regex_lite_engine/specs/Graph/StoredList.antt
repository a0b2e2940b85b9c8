-- The graph of several patterns as it is stored, and what a search for them needs of it.
use Rattle.std.specs.Prelude.{◌≡◌, ℕ, Bool, List, map, length, option_map}
use Rattle.std.specs.Prelude.{slice_get, slice_index_or, Option, Some, None}
use Rattle.std.specs.declared.alloc.Global.{Global}
use Rattle.std.specs.declared.rc.RcStr.{RcStr}
use Rattle.regex_lite_syntax.specs.Tree.{Tree}
use Rattle.regex_lite_syntax.specs.Tree.Properties.{captures_len, group_name, static_captures_len}
use Rattle.regex_lite_syntax.specs.Tree.Views.{text_of_name}
use Rattle.regex_lite_engine.specs.declared.nfa.place.Place as code
use Rattle.regex_lite_engine.specs.Graph.Addresses.{Address}
use Rattle.regex_lite_engine.specs.Graph.Parts.{HaveOwnParts}
use Rattle.regex_lite_engine.specs.Graph.Places.{Place}
use Rattle.regex_lite_engine.specs.Graph.Renumbered.{IsRenumbered, arrows_of}
use Rattle.regex_lite_engine.specs.Graph.SideBySide.{AreEntries, arrows_of_all}
use Rattle.regex_lite_engine.specs.Graph.SideBySide.{places_of_all, side_by_side}
use Rattle.regex_lite_engine.specs.Graph.Stored.{place_of}

-- what is stored of the groups of one pattern: their names by index, and the least number of groups
-- that take part in every match, if it is known
pub record StoredGroups : Type 0 where
  pub capture_names : List (Option (RcStr Global))
  pub static_captures_len : Option ℕ

-- the graph of several patterns as callers see it
pub record StoredList : Type 0 where
  pub places : List code.Place
  -- the place at which each pattern is entered, by its number
  pub entries : List ℕ
  -- the number of arrows of the places
  pub arrows : ℕ
  -- the groups of each pattern, by its number
  pub groups : List StoredGroups
  -- whether each match of a pattern reads a character, by the pattern's number
  pub reads : List Bool

-- the places of the graph
abbrev pub table_of_list : StoredList → List (Place ℕ)
table_of_list list = map place_of list.places

-- the precondition of searches: the graph is that of the trees, and has as many places and arrows
-- as it says
pub record IsGraphOfList (trees : List Tree) (list : StoredList) : Type 0 where
  pub name : ℕ → Address
  pub written : IsRenumbered (side_by_side trees) name (table_of_list list)
  pub entries : AreEntries trees name (table_of_list list) list.entries
  pub each_entry : length list.entries ≡ length trees
  pub parts : HaveOwnParts trees (table_of_list list) list.entries
  pub places : length list.places ≡ places_of_all trees
  pub arrows : list.arrows ≡ arrows_of_all trees
  pub each_arrow : arrows_of (table_of_list list) ≡ arrows_of_all trees

-- what is stored of groups is true of the tree
pub record TellsGroupsOf (tree : Tree) (groups : StoredGroups) : Type 0 where
  pub captures : length groups.capture_names ≡ captures_len tree
  pub names : (k : ℕ)
      → slice_index_or (map (option_map text_of_name) groups.capture_names) k None
      ≡ group_name tree k
  pub static_captures : groups.static_captures_len ≡ static_captures_len tree

-- what is stored of the groups of each pattern is true of its tree
abbrev pub TellGroupsOf : List Tree → List StoredGroups → Type 0
TellGroupsOf trees list =
    (number : ℕ) (tree : Tree) (groups : StoredGroups) → slice_get trees number ≡ Some tree
    → slice_get list number ≡ Some groups → TellsGroupsOf tree groups

-- what the graph says of the groups of all patterns
pub record HasGroupsOfList (trees : List Tree) (list : StoredList) : Type 0 where
  pub all : length list.groups ≡ length trees
  pub each : TellGroupsOf trees list.groups
