-- Tables of numbered places that stand for places at addresses, and the graph of a tree: its
-- written-out pattern with numbers instead of addresses.
use Rattle.std.specs.Prelude.{◌≡◌, ◌<◌, ℕ, List, map, option_map, length}
use Rattle.std.specs.Prelude.{slice_get, slice_index_or, Some, None, sum_by}
use Rattle.regex_lite_syntax.specs.Tree.{Tree}
use Rattle.regex_lite_syntax.specs.Tree.Properties.{captures_len, group_name, static_captures_len}
use Rattle.regex_lite_syntax.specs.Tree.Views.{text_of_name}
use Rattle.regex_lite_engine.specs.Graph.Places.{Place, complete, with_arrows, renamed}
use Rattle.regex_lite_engine.specs.Graph.Addresses.{Address}
use Rattle.regex_lite_engine.specs.Graph.Repetitions.{Content}
use Rattle.regex_lite_engine.specs.Graph.WrittenOut.{written_out, start_address}
use Rattle.regex_lite_engine.specs.Graph.PlaceCounts.{whole_places, whole_arrows}
use Rattle.regex_lite_engine.specs.Graph.Stored.{StoredGraph, LeadsBelow, table_of}

-- the number of arrows of the places
abbrev pub arrow_count : {A : Type 0} → Place A → ℕ
arrow_count complete = 0
arrow_count (with_arrows arrows) = length arrows

abbrev pub arrows_of : {A : Type 0} → List (Place A) → ℕ
arrows_of places = sum_by arrow_count places

-- The table has the places of the addresses. Number q stands for the address `name q`, each address
-- with a place has just one number, and arrows lead to numbers of places
pub record IsRenumbered (content : Address → Content) (name : ℕ → Address)
    (table : List (Place ℕ)) : Type 0 where
  pub apart : (p q : ℕ) → p < length table → q < length table → name p ≡ name q → p ≡ q
  pub alike : (q : ℕ) (place : Place ℕ) → slice_get table q ≡ Some place
      → content (name q) ≡ Some (renamed name place)
  pub each : (a : Address) (place : Place Address) → content a ≡ Some place
      → (q : ℕ) × (q < length table) × (name q ≡ a)
  pub inside : (q : ℕ) (place : Place ℕ) → slice_get table q ≡ Some place
      → LeadsBelow (length table) place

-- the number is that of a place of the table, and stands for the address
pub record IsNumberOf (name : ℕ → Address) (table : List (Place ℕ)) (a : Address) (q : ℕ)
    : Type 0 where
  pub inside : q < length table
  pub same : name q ≡ a

-- the precondition of searches: the graph is that of the tree, and has as many places and arrows as
-- it says
pub record IsGraphOf (tree : Tree) (graph : StoredGraph) : Type 0 where
  pub name : ℕ → Address
  pub written : IsRenumbered (written_out tree) name (table_of graph)
  pub start : IsNumberOf name (table_of graph) start_address graph.start
  pub places : length graph.places ≡ whole_places tree
  pub arrows : graph.arrows ≡ whole_arrows tree
  pub each_arrow : arrows_of (table_of graph) ≡ whole_arrows tree

-- what the graph says of groups holds for the tree
pub record HasGroupsOf (tree : Tree) (graph : StoredGraph) : Type 0 where
  pub captures : length graph.capture_names ≡ captures_len tree
  pub names : (k : ℕ)
      → slice_index_or (map (option_map text_of_name) graph.capture_names) k None
      ≡ group_name tree k
  pub static_captures : graph.static_captures_len ≡ static_captures_len tree
