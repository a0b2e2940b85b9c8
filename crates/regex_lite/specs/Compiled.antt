-- The relations between the parts of a regex and of a searcher.
use Rattle.std.specs.Prelude.{◌≡◌, ℕ, List, Option, chars, map, not, option_map}
use Rattle.std.specs.Rc.{rc_str_bytes}
use Rattle.regex_lite_syntax.specs.Tree.{Tree}
use Rattle.regex_lite_syntax.specs.Grammar.{IsTree}
use Rattle.regex_lite_syntax.specs.Tree.Properties.{nullable, static_captures_len}
use Rattle.regex_lite_syntax.specs.Tree.Regular.{IsRegular}
use Rattle.regex_lite_engine.specs.Graph.Renumbered.{IsGraphOf, HasGroupsOf}
use Rattle.regex_lite_engine.specs.Graph.Size.{Fits}
use Rattle.regex_lite_engine.specs.Graph.StoredList.{StoredGroups}
use Rattle.regex_lite.specs.Expression.{AreNames, Expression, OfTree}
use Rattle.regex_lite.specs.Groups.{Groups, spans_of}
use Rattle.regex_lite.specs.declared.string.compiled.Compiled.{Compiled}

-- a regex is built from a tree that the grammar gives its pattern and that exceeds no limit
pub record IsBuilt (compiled : Compiled) : Type 0 where
  pub tree : Tree
  pub given : IsTree compiled.pattern.flags (chars compiled.pattern.pattern) tree
  pub regular : IsRegular tree
  pub fits : (size_limit : ℕ) × Fits size_limit tree
  -- the graph is that of the tree
  pub graph : IsGraphOf tree compiled.graph
  -- what the graph says of groups holds for the tree
  pub groups : HasGroupsOf tree compiled.graph
  -- what the graph says of whether matches read characters holds for the tree
  pub reads : compiled.graph.reads ≡ not (nullable tree)

-- what is stored of the groups of a regex
abbrev pub stored_groups : Compiled → StoredGroups
stored_groups compiled = record {
  capture_names = compiled.graph.capture_names;
  static_captures_len = compiled.graph.static_captures_len;
}

-- the names of the groups, as their bytes
abbrev pub names_of : StoredGroups → List (Option (List ℕ))
names_of stored = map (option_map rc_str_bytes) stored.capture_names

-- what is known of the groups of a tree without a match: their names, and how many at least take
-- part
pub record NamesGroups (tree : Tree) (names : List (Option (List ℕ))) (static : Option ℕ)
    : Type 0 where
  pub names_are : AreNames names tree
  pub static_is : static ≡ static_captures_len tree

-- what is stored has the regex's names and number
abbrev pub SharesGroups : Expression → StoredGroups → Type 0
SharesGroups re stored =
    OfTree re (λ tree. NamesGroups tree (names_of stored) stored.static_captures_len)

-- these groups have the regex's names and number, whatever they matched
abbrev pub AreOfRegex : Expression → Groups → Type 0
AreOfRegex re groups =
    OfTree re (λ tree. NamesGroups tree groups.names groups.static_captures_len)

-- the groups of a match in this haystack with these slots
abbrev pub groups_of : (haystack : List ℕ) → (slots : List (Option ℕ)) → StoredGroups → Groups
groups_of haystack slots stored = record {
  haystack = haystack;
  spans = spans_of slots;
  names = names_of stored;
  static_captures_len = stored.static_captures_len;
}
