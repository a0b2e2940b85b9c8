-- The relations between the parts of a list of patterns, and what the groups of a match share with
-- the list that found it.
use Rattle.std.specs.Prelude.{◌≡◌, ◌<◌, ◌^◌, ℕ, List, [], None, length, slice_get, unwrap_or}
use Rattle.regex_lite_syntax.specs.Tree.{Tree}
use Rattle.regex_lite_engine.specs.Graph.SideBySide.{AreRegularPatterns, places_of_all}
use Rattle.regex_lite_engine.specs.Graph.StoredList.{HasGroupsOfList, IsGraphOfList, StoredGroups}
use Rattle.regex_lite_engine.specs.Search.Starts.{TellReading}
use Rattle.regex_lite.specs.Compiled.{stored_groups}
use Rattle.regex_lite.specs.RegexList.{AreTrees}
use Rattle.regex_lite.specs.Slots.{kept_slots, most_groups}
use Rattle.regex_lite.specs.declared.string.list.compiled.CompiledList.{CompiledList}
use Rattle.regex_lite.specs.declared.string.source.Finder.{Finder}
use Rattle.regex_lite.specs.declared.string.source.Finder.TheVariants.{Regex, Listed}

-- a list is built from trees that the grammar gives its patterns and whose places can be numbered
pub record IsBuiltList (compiled : CompiledList) : Type 0 where
  pub trees : List Tree
  pub given : AreTrees compiled.patterns.items trees
  pub regular : AreRegularPatterns trees
  pub fit : places_of_all trees < 2 ^ 32
  -- the graph is that of the trees
  pub graph : IsGraphOfList trees compiled.graph
  -- what the graph says of groups holds for the trees
  pub groups : HasGroupsOfList trees compiled.graph
  -- what the graph says of whether matches read characters holds for the trees
  pub reads : TellReading trees compiled.graph.reads
  -- the kept slots suffice for the pattern with the most groups
  pub slots : compiled.kept_slots ≡ kept_slots (most_groups compiled.graph.groups)

-- what is stored of the groups of the pattern with this number, which exists
abbrev pub groups_at : List StoredGroups → (number : ℕ) → StoredGroups
groups_at all number =
    unwrap_or (slice_get all number) (record { capture_names = []; static_captures_len = None })

-- what is stored of the groups of the pattern that was found
abbrev pub groups_from : Finder → StoredGroups
groups_from (Regex compiled) = stored_groups compiled
groups_from (Listed list number) = groups_at list.graph.groups number

-- the pattern exists
abbrev pub IsThere : Finder → Type 0
IsThere (Regex compiled) = Unit {0}
IsThere (Listed list number) = number < length list.graph.groups
